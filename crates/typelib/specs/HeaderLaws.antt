-- The words of a part of a list of bytes. Assumes nothing.
use Rattle.std.specs.Prelude.{◌≡◌, refl, List, ℕ, zero, suc, ◌+◌, ◌-◌, ◌*◌, ◌≤◌, length, get_or, take, drop, ◌/◌, ◌%◌, ◌^◌, ◌<◌}
use Rattle.std.proofs.Common.{◌∙◌, ap, arith, length-drop, get_or-take, get_or-drop, length-take-le, sym}
use Rattle.util.specs.Read.{le, read, or_zero, read-zero}
use borrow.Author.Tests.{le-leb, lt-leb, le-ltb, lt-ltb, eq-eqb, ne_eqb}
use Rattle.records.specs.Answer.{value, refused}
use Rattle.records.specs.Record.{limit}
use Rattle.typelib.specs.Header.{signature, word, table_at, directory_at, library_of, parse_of}

le-part : (w : ℕ) (s : List ℕ) (at n k : ℕ) → k + w ≤ n → le w (take n (drop at s)) k ≡ le w s (at + k)
unfolding le
le-part zero s at n k h = refl
le-part (suc w) s at n k h =
    let first : get_or (take n (drop at s)) k 0 ≡ get_or s (at + k) 0 = get_or-take n (drop at s) k 0 (omega arith) ∙ get_or-drop at s k 0 in
    let rest : le w (take n (drop at s)) (k + 1) ≡ le w s (at + (k + 1)) = le-part w s at n (k + 1) (omega arith) in
    let e : at + (k + 1) ≡ at + k + 1 = omega arith in
    ap (λ b. b + 256 * le w (take n (drop at s)) (k + 1)) first ∙ ap (λ r. get_or s (at + k) 0 + 256 * r) (rest ∙ ap (λ i. le w s i) e)

pub word-in-part : (s : List ℕ) (at n k v : ℕ) → k + 4 ≤ n → at + n ≤ length s → v ≡ or_zero (read 4 (take n (drop at s)) k) → v ≡ le 4 s (at + k)
word-in-part s at n k v h l e =
    let d : length (drop at s) ≡ length s - at = length-drop at s in
    let g : length (take n (drop at s)) ≡ n = length-take-le n (drop at s) (omega arith) in
    read-zero 4 (take n (drop at s)) k v (omega arith) e ∙ le-part 4 s at n k h

-- ---- the same by cases

module _ (s : List ℕ) where
  pub parse-long : limit < length s → refused 1 ≡ parse_of s
  unfolding parse_of
  parse-long h = rw (lt-ltb limit (length s) h)

  pub parse-short : length s ≤ limit → length s < 84 → refused 2 ≡ parse_of s
  unfolding parse_of
  parse-short h k = rw (le-ltb limit (length s) h, lt-ltb (length s) 84 k)

  pub parse-magic : length s ≤ limit → 84 ≤ length s → (word "magic1" s ≡ signature → ⊥) → refused 3 ≡ parse_of s
  unfolding parse_of
  parse-magic h k m = rw (le-ltb limit (length s) h, le-ltb (length s) 84 k, ne_eqb (word "magic1" s) signature m)

  pub parse-count : length s ≤ limit → 84 ≤ length s → word "magic1" s ≡ signature → 0x80000000 ≤ word "nrtypeinfos" s → refused 4 ≡ parse_of s
  unfolding parse_of
  parse-count h k m n =
      rw (le-ltb limit (length s) h, le-ltb (length s) 84 k, eq-eqb (word "magic1" s) signature m, le-leb 0x80000000 (word "nrtypeinfos" s) n)

  pub parse-directory : length s ≤ limit → 84 ≤ length s → word "magic1" s ≡ signature → word "nrtypeinfos" s < 0x80000000 → length s < directory_at s + 240 → refused 5 ≡ parse_of s
  unfolding parse_of
  parse-directory h k m n d =
      rw (
        le-ltb limit (length s) h,
        le-ltb (length s) 84 k,
        eq-eqb (word "magic1" s) signature m,
        lt-leb 0x80000000 (word "nrtypeinfos" s) n,
        lt-ltb (length s) (directory_at s + 240) d,
      )

  pub parse-library : length s ≤ limit → 84 ≤ length s → word "magic1" s ≡ signature → word "nrtypeinfos" s < 0x80000000 → directory_at s + 240 ≤ length s → value (library_of s) ≡ parse_of s
  unfolding parse_of
  parse-library h k m n d =
      rw (
        le-ltb limit (length s) h,
        le-ltb (length s) 84 k,
        eq-eqb (word "magic1" s) signature m,
        lt-leb 0x80000000 (word "nrtypeinfos" s) n,
        le-ltb (length s) (directory_at s + 240) d,
      )

-- where the offset table starts, by the flag's bit
pub table-with : (s : List ℕ) (b : ℕ) → b ≡ 1 → b ≡ word "varflags" s / 2 ^ 8 % 2 ^ 1 → 88 ≡ table_at s
table-with s b h e =
    let f : word "varflags" s / 256 % 2 ≡ 1 = sym e ∙ h in
    rw (eq-eqb (word "varflags" s / 256 % 2) 1 f)

pub table-without : (s : List ℕ) (b : ℕ) → (b ≡ 1 → ⊥) → b ≡ word "varflags" s / 2 ^ 8 % 2 ^ 1 → 84 ≡ table_at s
table-without s b h e = rw (ne_eqb (word "varflags" s / 256 % 2) 1 (λ f. h (e ∙ f)))
