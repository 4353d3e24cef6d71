-- Over bytes that are not over-long, a reading of a record or of the words behind it refuses with 9 and no other number;
-- over bytes that are, with 1.
-- Assumes nothing.
use Rattle.std.specs.Prelude.{◌≡◌, List, ℕ, ◌+◌, ◌≤◌, ◌<◌, leb, ltb, length, Option, Some, None}
use Rattle.std.proofs.Common.{ap, arith, ltb-true}
use Rattle.util.specs.Read.{read, cond-elim}
use Rattle.records.specs.declared.typeinfo.TypeInfoEntry.{TypeInfoEntry}
use Rattle.records.specs.Answer.{Answer, value, refused, map, bind, or_nine}
use Rattle.records.specs.AnswerLaws.{map-refused, bind-refused}
use Rattle.records.specs.RecordLaws.{held-long, place-refused, field-refused}
use Rattle.records.specs.Record.{limit, held, field_place, field_at}
use Rattle.typelib.specs.declared.typeinfos.Counts.{Counts}
use Rattle.typelib.specs.TypeInfos.{block_at, aux_word, aux_in, member_word}

abbrev pub OnlyNine : {A : Type 0} → Answer A → Type 0
OnlyNine a = (n : ℕ) → refused n ≡ a → n ≡ 9

pub nine-value : {A : Type 0} (x : A) → OnlyNine (value x)
nine-value x n e = let z : ◌≡◌ {A = ℕ} 0 1 = cc in absurd (omega arith)

pub nine-refused : {A : Type 0} → OnlyNine {A = A} (refused 9)
nine-refused n e = cc

pub nine-map : {A B : Type 0} (f : A → B) (a : Answer A) → OnlyNine a → OnlyNine (map f a)
nine-map f (value x) h n e = nine-value (f x) n e
nine-map f (refused m) h n e = h n (let q : n ≡ m = cc in ap refused q)

pub nine-bind : {A B : Type 0} (f : A → Answer B) (a : Answer A) → OnlyNine a → ((x : A) → OnlyNine (f x)) → OnlyNine (bind a f)
nine-bind f (value x) h k n e = k x n e
nine-bind f (refused m) h k n e = h n (let q : n ≡ m = cc in ap refused q)

pub nine-or : {A : Type 0} (o : Option A) → OnlyNine (or_nine o)
nine-or None n e = cc
nine-or (Some x) n e = nine-value x n e

pub nine-held : (s : List ℕ) (at len fixed : ℕ) → length s ≤ limit → OnlyNine (held s at len fixed)
unfolding held
nine-held s at len fixed h =
    cond-elim OnlyNine (ltb limit (length s)) _ _ (λ k. absurd (omega (arith, ltb-true limit (length s) k))) (λ _.
    cond-elim OnlyNine (ltb len fixed) _ _ (λ _. nine-refused) (λ _.
    cond-elim OnlyNine (leb (at + len) (length s)) _ _ (λ _. nine-value tt) (λ _. nine-refused)))

pub nine-field : (w fixed offset : ℕ) (s : List ℕ) (at len : ℕ) → length s ≤ limit → OnlyNine (field_at w fixed offset s at len)
unfolding field_place
nine-field w fixed offset s at len h =
    nine-map _ _ (nine-bind _ _ (nine-held s at len fixed h) (λ _.
    cond-elim OnlyNine (leb (offset + w) len) _ _ (λ _. nine-value _) (λ _. nine-refused)))

pub nine-aux : (s : List ℕ) (memoffset k : ℕ) → OnlyNine (aux_in s memoffset k)
unfolding aux_in block_at aux_word
nine-aux s memoffset k =
    nine-bind _ _
    (cond-elim OnlyNine (leb 0x80000000 memoffset) _ _ (λ _. nine-refused) (λ _. nine-map _ _ (nine-or (read 4 s memoffset))))
    (λ block. nine-or (read 4 s _))

pub nine-member : (first : Counts → ℕ) (s : List ℕ) (ti : TypeInfoEntry) (i : ℕ) → length s ≤ limit → OnlyNine (member_word first s ti i)
nine-member first s ti i h =
    nine-bind _ _
    (nine-bind _ _ (nine-map _ _ (nine-field 4 100 24 s ti.at ti.len h)) (λ _. nine-map _ _ (nine-map _ _ (nine-field 4 100 24 s ti.at ti.len h))))
    (λ c. nine-bind _ _ (nine-field 4 100 4 s ti.at ti.len h) (λ m. nine-aux s m _))

-- ---- and over bytes that are over-long with 1

pub long-field : (w fixed offset : ℕ) (s : List ℕ) (at len : ℕ) → limit < length s → refused 1 ≡ field_at w fixed offset s at len
long-field w fixed offset s at len h =
    field-refused w fixed offset s at len 1 (place-refused w fixed offset s at len 1 (held-long s at len fixed h))

pub long-member : (first : Counts → ℕ) (s : List ℕ) (ti : TypeInfoEntry) (i : ℕ) → limit < length s → refused 1 ≡ member_word first s ti i
long-member first s ti i h =
    bind-refused _ _ _ (bind-refused _ _ _ (map-refused _ _ _ (long-field 4 100 24 s ti.at ti.len h)))
