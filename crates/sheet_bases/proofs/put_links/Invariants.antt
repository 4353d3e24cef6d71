use Rattle.typelib.specs.Header.{library}
use Rattle.sheet_bases.proofs.BaseLaws.{At}
use Rattle.sheet_bases.specs.Bases.{links_bytes}
use Rattle.emit.specs.Laws.{Left}
use Rattle.emit.specs.Emit.{put}
use Rattle.records.specs.Answer.{value}
use Rattle.sheet_bases.proofs.put_links.Given as goal

abbrev pub invariant-loop : goal.invariant-loop
invariant-loop l = Left (value (links_bytes l.s (library l.lib) l.initial.c l.count 0)) (put l.initial.t) l.initial.out (value (links_bytes l.s (library l.lib) l.initial.c l.count l.counter)) (put l.t) l.out × At l.s (library l.lib) l.initial.c l.count l.counter l.c
