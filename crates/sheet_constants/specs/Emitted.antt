-- What the emitter of a constant emits: its bytes behind byte 1, or byte 0. Assumes nothing.
use Rattle.std.specs.Prelude.{List, ℕ}
use Rattle.records.specs.Answer.{Answer, value}
use Rattle.typelib.specs.declared.TypeLib.{TypeLib}
use Rattle.description.specs.Format.{encode, opt}
use Rattle.description.specs.Description.{Bytes}
use Rattle.description.specs.Sheet.{constant}
use Rattle.describe.specs.Constants.{constant_of}

abbrev pub constant_emitted : List ℕ → TypeLib → ℕ → Answer Bytes
constant_emitted s lib word = value (encode (opt constant) (constant_of s lib word))
