-- Little-endian numbers in a list of bytes, over the width. Wine's typelib.h stores an INT in four bytes and an INT16 in
-- two, the lowest first. Assumes nothing.
use Rattle.std.specs.Prelude.{◌≡◌, refl, Bool, true, false, cond, List, ℕ, zero, suc, ◌+◌, ◌*◌, ◌^◌, ◌-◌, ◌<◌, ◌≤◌, leb, length, get_or, take, drop, unwrap_or, Option, Some, None}
use Rattle.std.proofs.Common.{◌∙◌, sym, ap, zero-add, add-zero, one-mul, suc-add, mul_assoc, arith, le-leb, leb-true, leb-false}
use Rattle.std.proofs.lemmas.List.{get_or-take, get_or-drop}
use Rattle.std.proofs.Math.Nat.{pow-succ'}
use Rattle.std.proofs.lemmas.Bool.{lt-leb}

-- the number whose `w` base-256 digits, the lowest first, stand at `at`
unfoldable pub le : ℕ → List ℕ → ℕ → ℕ
le zero s at = 0
le (suc w) s at = get_or s at 0 + 256 * le w s (at + 1)

-- the number of the `w` bytes at `at`, or nothing where they do not all stand in the list
unfoldable pub read : ℕ → List ℕ → ℕ → Option ℕ
read w s at = cond (leb (at + w) (length s)) (Some (le w s at)) None

-- the `w` bytes at `at`, or nothing where they do not all stand in the list
unfoldable pub bytes_at : ℕ → List ℕ → ℕ → Option (List ℕ)
bytes_at w s at = cond (leb (at + w) (length s)) (Some (take w (drop at s))) None

-- the value, or 0 if there is none
abbrev pub or_zero : Option ℕ → ℕ
or_zero n = unwrap_or n 0

-- ---- laws of `le`, over the width

-- the first `a` digits, and above them the other `b`
pub le_split : (a b : ℕ) (s : List ℕ) (at : ℕ) → le (a + b) s at ≡ le a s at + 256 ^ a * le b s (at + a)
unfolding le
le_split zero b s at = simp (zero-add, one-mul, add-zero)
le_split (suc a) b s at =
    let hp : 256 ^ suc a * le b s (at + suc a) ≡ 256 * (256 ^ a * le b s (at + suc a)) = rw (pow-succ', mul_assoc) in
    let hi : at + 1 + a ≡ at + suc a = omega arith in
    let hs : le (suc a + b) s at ≡ le (suc (a + b)) s at = rw suc-add in
    let ih : le (a + b) s (at + 1) ≡ le a s (at + 1) + 256 ^ a * le b s (at + suc a) = rw hi at (le_split a b s (at + 1)) in
    hs ∙ omega arith

-- a number of `w` digits is below 256 ^ w
pub le-lt : (w : ℕ) (s : List ℕ) (at : ℕ) → ((i : ℕ) → get_or s i 0 < 256) → le w s at < 256 ^ w
unfolding le
le-lt zero s at h = omega arith
le-lt (suc w) s at h =
    let hp : 256 ^ suc w ≡ 256 * 256 ^ w = pow-succ' 256 w in
    let ih : le w s (at + 1) < 256 ^ w = le-lt w s (at + 1) h in
    let hb : get_or s at 0 < 256 = h at in
    omega arith

-- ---- laws of `read`, over the width

pub read_some : (w : ℕ) (s : List ℕ) (at v : ℕ) → at + w ≤ length s → v ≡ le w s at → Some v ≡ read w s at
unfolding read
read_some w s at v h e = rw (le-leb (at + w) (length s) h) (ap Some e)

pub read_none : (w : ℕ) (s : List ℕ) (at : ℕ) → length s < at + w → None ≡ read w s at
unfolding read
read_none w s at h = rw (lt-leb (at + w) (length s) h)

-- what a test tells of the value that it picks
pub cond-elim : {A : Type 0} (P : A → Type 0) (b : Bool) (x y : A) → (b ≡ true → P x) → (b ≡ false → P y) → P (cond b x y)
cond-elim P true x y f g = f refl
cond-elim P false x y f g = g refl

-- a value that was read stands inside the list
pub record Stands (w : ℕ) (s : List ℕ) (at v : ℕ) : Type 0 where
  pub inside : at + w ≤ length s
  pub is : v ≡ le w s at

pub some_read : (w : ℕ) (s : List ℕ) (at v : ℕ) → Some v ≡ read w s at → Stands w s at v
unfolding read
some_read w s at v =
    cond-elim (λ r. Some v ≡ r → Stands w s at v) (leb (at + w) (length s)) (Some (le w s at)) None
    (λ h e. record { inside = leb-true (at + w) (length s) h; is = cc })
    (λ h e. let z : ◌≡◌ {A = ℕ} 0 1 = cc in absurd (omega arith))

pub none_read : (w : ℕ) (s : List ℕ) (at : ℕ) → None ≡ read w s at → length s < at + w
unfolding read
none_read w s at =
    cond-elim (λ r. None ≡ r → length s < at + w) (leb (at + w) (length s)) (Some (le w s at)) None
    (λ h e. let z : ◌≡◌ {A = ℕ} 0 1 = cc in absurd (omega arith))
    (λ h e. leb-false (at + w) (length s) h)

-- a number that stands inside the list
pub read-zero : (w : ℕ) (s : List ℕ) (at r : ℕ) → at + w ≤ length s → r ≡ or_zero (read w s at) → r ≡ le w s at
read-zero w s at r h e = e ∙ ap or_zero (sym (read_some w s at (le w s at) h refl))

-- one byte
pub le-byte : (s : List ℕ) (at : ℕ) → le 1 s at ≡ get_or s at 0
unfolding le
le-byte s at = omega arith

-- a complement, taken twice
pub twice : (m x : ℕ) → x ≤ m → m - (m - x) ≡ x
twice m x h = omega arith

-- ---- laws of `bytes_at`, over the width

-- the number of bytes that were cut out is the one that stands where they do; `k` of them were read
le-cut : (w k : ℕ) (s : List ℕ) (at : ℕ) → le w (take (k + w) (drop at s)) k ≡ le w s (at + k)
unfolding le
le-cut zero k s at = refl
le-cut (suc w) k s at =
    let hk : k + suc w ≡ k + 1 + w = omega arith in
    let ha : at + (k + 1) ≡ at + k + 1 = omega arith in
    let first : get_or (take (k + suc w) (drop at s)) k 0 ≡ get_or s (at + k) 0 =
    get_or-take (k + suc w) (drop at s) k 0 (omega arith) ∙ get_or-drop at s k 0 in
    let rest : le w (take (k + suc w) (drop at s)) (k + 1) ≡ le w s (at + k + 1) = rw (hk, le-cut w (k + 1) s at, ha) in
    omega (arith, first, rest)

pub cut : (w : ℕ) (s : List ℕ) (at : ℕ) (b : List ℕ) → at + w ≤ length s → b ≡ take w (drop at s) → Some b ≡ bytes_at w s at
unfolding bytes_at
cut w s at b h e = rw (le-leb (at + w) (length s) h) (ap Some e)

pub cut-none : (w : ℕ) (s : List ℕ) (at : ℕ) → length s < at + w → None ≡ bytes_at w s at
unfolding bytes_at
cut-none w s at h = rw (lt-leb (at + w) (length s) h)

pub read-cut : (w : ℕ) (s : List ℕ) (at : ℕ) (b : List ℕ) (v : ℕ) → Some b ≡ bytes_at w s at → v ≡ le w b 0 → Some v ≡ read w s at
unfolding bytes_at read
read-cut w s at b v =
    cond-elim (λ r. Some b ≡ r → v ≡ le w b 0 → Some v ≡ read w s at) (leb (at + w) (length s)) (Some (take w (drop at s))) None
    (λ h e hv. let c : le w (take w (drop at s)) 0 ≡ le w s (at + 0) = rw zero-add at (le-cut w 0 s at) in
    let z : at + 0 ≡ at = add-zero at in
    let hb : b ≡ take w (drop at s) = cc in
    rw h (ap Some (hv ∙ rw hb (c ∙ rw z))))
    (λ h e hv. let z : ◌≡◌ {A = ℕ} 0 1 = cc in absurd (omega arith))

pub read-cut-none : (w : ℕ) (s : List ℕ) (at : ℕ) → None ≡ bytes_at w s at → None ≡ read w s at
unfolding bytes_at read
read-cut-none w s at =
    cond-elim (λ r. None ≡ r → None ≡ read w s at) (leb (at + w) (length s)) (Some (take w (drop at s))) None
    (λ h e. let z : ◌≡◌ {A = ℕ} 0 1 = cc in absurd (omega arith))
    (λ h e. rw h)
