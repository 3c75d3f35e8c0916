-- The groups of a number: the steps of the three loops, and both laws.
use Rattle.std.proofs.Common.{◌≡◌, ℕ, zero, suc, ◌+◌, ◌-◌, ◌*◌, ◌/◌, ◌%◌, ◌^◌, ◌<◌, ◌≤◌, true, false, cond, eqb, ltb, List, [], ◌∷◌, ◌++◌, length, get_or, take, drop, set, Ok, Err, Result, sym, refl, ap, ◌∙◌, ⊎_elim, append_assoc, mul_assoc, mul_comm, add-mul, pow-suc, mul-add, add-one, arith, pow_mono}
use Rattle.std.specs.Int.Digits.{AllBelowBase}
use Rattle.std.proofs.lemmas.Nat.{pow-add, mul-add-lt, mul-le, shl_whole, div_below}
use Rattle.std.proofs.lemmas.List.{at_drop_more, at_drop_all, length-append, length-drop, length-set, set_split, take_all, take_at, take_more_set, drop_all}
use Rattle.std.proofs.lemmas.Bool.{eqb-false, ne_eqb, lt-ltb, le-ltb, cases_Bool, cases_lt, cond_both}
use Rattle.reading.specs.declared.plain.Refusal.{Refusal}
use Rattle.reading.specs.declared.plain.Refusal.TheVariants.{CutNumber, LongNumber, LargeNumber}
use Rattle.number.specs.declared.leb128.Number.{Number}
use Rattle.number.specs.Numbers.{largest, number, last, more, decoded_by, decoded, encoded_by, encoded, Exact, ReadBack}

-- what the whole answers where i groups worth v came before the rest, which counts s times
abbrev pub lifted : ℕ → ℕ → ℕ → Result Number Refusal → Result Number Refusal
lifted zero s v r = r
lifted (suc i) s v (Ok n) = cond (eqb n.value 0) (Err LongNumber) (Ok (number (v + n.value * s) (i + 1 + n.width)))
lifted (suc i) s v (Err e) = Err e

same : {v v' w w' : ℕ} → v ≡ v' → w ≡ w' → ◌≡◌ {A = Result Number Refusal} (Ok (number v w)) (Ok (number v' w'))
same p q = cc

lifted_more : (i s v g : ℕ) (r : Result Number Refusal) → (i ≡ 0 → (s ≡ 1) × (v ≡ 0)) → lifted i s v (more g r) ≡ lifted (suc i) (s * 128) (v + g * s) r
lifted_more zero s v g (Err c) h = refl
lifted_more (suc i) s v g (Err c) h = refl
lifted_more zero s v g (Ok n) h =
    let a : g + 128 * n.value ≡ v + g * s + n.value * (s * 128) = rw ((h refl).0, (h refl).1) (omega arith) in
    let b : n.width + 1 ≡ 0 + 1 + n.width = omega arith in
    ap (λ (x : Result Number Refusal). cond (eqb n.value 0) (Err LongNumber) x) (same a b)
lifted_more (suc i) s v g (Ok n) h =
    let m = n.value in
    let a : v + (g + 128 * m) * s ≡ v + g * s + m * (s * 128) = omega (arith, add-mul g (128 * m) s, mul_assoc 128 m s, mul_assoc m s 128, mul_comm (m * s) 128) in
    let b : i + 1 + (n.width + 1) ≡ suc i + 1 + n.width = omega arith in
    ⊎_elim
    (λ (e : eqb n.value 0 ≡ true). rw e)
    (λ (e : eqb n.value 0 ≡ false).
    let ne : eqb (g + 128 * n.value) 0 ≡ false = ne_eqb _ 0 (λ z. eqb-false m 0 e (omega arith)) in
    rw (e, ne) (same a b))
    (cases_Bool (eqb n.value 0))

lifted_err : (i s v : ℕ) (e : Refusal) → lifted i s v (Err e) ≡ Err e
lifted_err zero s v e = refl
lifted_err (suc i) s v e = refl

lifted_ok : (i s v b : ℕ) → (i ≡ 0 → (s ≡ 1) × (v ≡ 0)) → (b ≡ 0 → i ≡ 0) → lifted i s v (Ok (number b 1)) ≡ Ok (number (v + b * s) (i + 1))
lifted_ok zero s v b h z = same (rw ((h refl).0, (h refl).1) (omega arith)) refl
lifted_ok (suc i) s v b h z =
    let ne : eqb b 0 ≡ false = ne_eqb b 0 (λ e. let x = z e in omega arith) in
    rw ne (same refl (omega arith))

last_ok : (k b : ℕ) → (k ≡ 0 → b < 64) → last k b ≡ Ok (number b 1)
last_ok zero b h = rw (le-ltb 63 b (omega (arith, h refl)))
last_ok (suc k) b h = refl

last_large : (k b : ℕ) → k ≡ 0 → 64 ≤ b → last k b ≡ Err LargeNumber
last_large zero b e h = rw (lt-ltb 63 b h)
last_large (suc k) b e h = absurd (omega arith)

lifted_zero : (i s v : ℕ) → 0 < i → lifted i s v (Ok (number 0 1)) ≡ Err LongNumber
lifted_zero zero s v h = absurd (omega arith)
lifted_zero (suc i) s v h = refl

-- i groups worth v of the bytes are read
pub record Reading (bs : List ℕ) (i v : ℕ) : Type 0 where
  pub rest : decoded bs ≡ lifted i (2 ^ (7 * i)) v (decoded_by (7 - i) (drop i bs))
  pub small : v < 2 ^ (7 * i)

pub read_none : (bs : List ℕ) → Reading bs 0 0
unfolding decoded
read_none bs = record { rest = refl; small = omega arith }

module _ (bs : List ℕ) (i v : ℕ) (so : Reading bs i v) where
  pub too_many : i ≡ 7 → decoded bs ≡ Err LargeNumber
  too_many e = so.rest ∙ rw e refl

  first : i ≡ 0 → (2 ^ (7 * i) ≡ 1) × (v ≡ 0)
  first e = let p : 2 ^ (7 * i) ≡ 1 = rw e refl in (p, omega (arith, so.small))

  module _ (h : i < 7) where
    left : 7 - i ≡ suc (6 - i)
    left = omega arith

    pub ended : length bs ≤ i → decoded bs ≡ Err CutNumber
    ended l = so.rest ∙ rw (left, at_drop_all (decoded_by (suc (6 - i))) bs i l) (lifted_err i _ v CutNumber)

    module _ (l : i < length bs) where
      here : decoded bs ≡ lifted i (2 ^ (7 * i)) v (cond (ltb (get_or bs i 0) 128) (last (6 - i) (get_or bs i 0)) (more (get_or bs i 0 - 128) (decoded_by (6 - i) (drop (i + 1) bs))))
      here = so.rest ∙ rw (left, at_drop_more (decoded_by (suc (6 - i))) bs i 0 l) refl

      pub not_shortest : get_or bs i 0 ≡ 0 → 0 < i → decoded bs ≡ Err LongNumber
      not_shortest e p = here ∙ rw (e, last_ok (6 - i) 0 (λ _. omega arith)) (lifted_zero i _ v p)

      pub too_large : 64 ≤ get_or bs i 0 → get_or bs i 0 < 128 → i ≡ 6 → decoded bs ≡ Err LargeNumber
      too_large a b e = here ∙ rw (lt-ltb _ 128 b, last_large (6 - i) _ (omega arith) a) (lifted_err i _ v LargeNumber)

      pub stopped : get_or bs i 0 < 128 → (get_or bs i 0 ≡ 0 → i ≡ 0) → (i ≡ 6 → get_or bs i 0 < 64) → decoded bs ≡ Ok (number (v + get_or bs i 0 * 2 ^ (7 * i)) (i + 1))
      stopped b z m = here ∙ rw (lt-ltb _ 128 b, last_ok (6 - i) (get_or bs i 0) (λ e. m (omega arith))) (lifted_ok i _ v _ first z)

      pub read_more : 128 ≤ get_or bs i 0 → get_or bs i 0 < 256 → Reading bs (i + 1) (v + (get_or bs i 0 - 128) * 2 ^ (7 * i))
      read_more b m =
          let p : 2 ^ (7 * (i + 1)) ≡ 2 ^ (7 * i) * 128 = ap (λ j. 2 ^ j) (mul-add 7 i 1) ∙ pow-add 2 (7 * i) 7 in
          let q : 7 - (i + 1) ≡ 6 - i = omega arith in
          record {
            rest = rw (p, q) (here ∙ rw (le-ltb _ 128 b) (lifted_more i _ v (get_or bs i 0 - 128) (decoded_by (6 - i) (drop (i + 1) bs)) first) ∙ ap (λ j. lifted j (2 ^ (7 * i) * 128) (v + (get_or bs i 0 - 128) * 2 ^ (7 * i)) (decoded_by (6 - i) (drop (i + 1) bs))) (sym (add-one i)));
            small = rw p (omega (arith, mul-add-lt (get_or bs i 0 - 128) (2 ^ (7 * i)) v 128 (omega arith) so.small));
          }

-- a group of seven bits in its place, as the code shifts it
pub shifted : (i g : ℕ) → i < 7 → g < 128 → (g * 2 ^ (7 * i)) % 2 ^ 64 ≡ g * 2 ^ (7 * i)
shifted i g h l = shl_whole g 7 (7 * i) 64 l (omega arith)

pub sum_fits : (i v g : ℕ) → i < 7 → g < 128 → v < 2 ^ (7 * i) → v + (g * 2 ^ (7 * i)) % 2 ^ 64 < 2 ^ 64
sum_fits i v g h l s =
    let p : 2 ^ (7 * i) ≤ 2 ^ 42 = pow_mono {i = 7 * i} {j = 42} (omega arith) in
    rw (shifted i g h l) (omega (arith, mul-le g (2 ^ (7 * i)) 127 (2 ^ 42) (omega arith) p))

-- what was encoded is decoded, whatever follows
decodes : (k n : ℕ) (rest : List ℕ) → n < 64 * 128 ^ k → decoded_by (suc k) (encoded_by k n ++ rest) ≡ Ok (number n (length (encoded_by k n)))
decodes zero n rest h = rw (lt-ltb n 128 (omega arith), le-ltb 63 n (omega arith))
decodes (suc k) n rest h =
    ⊎_elim
    (λ (l : n < 128). rw (lt-ltb n 128 l, lt-ltb n 128 l))
    (λ (l : 128 ≤ n).
    let g : 128 + n % 128 - 128 ≡ n % 128 = omega arith in
    let m : n / 128 < 64 * 128 ^ k = div_below n 128 (64 * 128 ^ k) (omega arith) (omega (arith, pow-suc 128 k, mul_assoc 64 (128 ^ k) 128)) in
    let a : n % 128 + 128 * (n / 128) ≡ n = omega arith in
    let z : eqb (n / 128) 0 ≡ false = ne_eqb _ 0 (λ e. omega arith) in
    rw (le-ltb n 128 l, le-ltb (128 + n % 128) 128 (omega arith), g, decodes k (n / 128) rest m, z, a, add-one))
    (cases_lt n 128)

-- the parts of an answer
ok_parts : {n m : Number} → ◌≡◌ {A = Result Number Refusal} (Ok n) (Ok m) → n ≡ m
ok_parts e = cc

ok_err : {A : Type 0} {n : Number} {e : Refusal} → ◌≡◌ {A = Result Number Refusal} (Err e) (Ok n) → A
ok_err e = absurd (let z : ◌≡◌ {A = ℕ} 0 1 = cc in omega arith)

more_ok : (g : ℕ) (n : Number) (r : Result Number Refusal) → more g r ≡ Ok n → (m : Number) × (r ≡ Ok m) × (0 < m.value) × (number (g + 128 * m.value) (m.width + 1) ≡ n)
more_ok g n (Err c) e = ok_err e
more_ok g n (Ok m) e =
    ⊎_elim
    (λ (z : eqb m.value 0 ≡ true). ok_err (rw z at e))
    (λ (z : eqb m.value 0 ≡ false).
    let f = ok_parts (rw z at e) in
    let no : m.value ≡ 0 → ⊥ = eqb-false m.value 0 z in
    (m, refl, omega arith, f))
    (cases_Bool (eqb m.value 0))

held : (k : ℕ) → 0 < 128 ^ k
held zero = omega arith
held (suc k) = omega (arith, held k, pow-suc 128 k)

-- the bytes are those of n in at most k groups and a last one, and others
abbrev Taken : ℕ → Number → List ℕ → Type 0
Taken k n bs = (bs ≡ encoded_by k n.value ++ drop n.width bs) × (n.width ≡ length (encoded_by k n.value)) × (n.value < 64 * 128 ^ k)

taken_more : (k b v : ℕ) (m : Number) (bs : List ℕ) → 128 ≤ b → b < 256 → 0 < m.value → v ≡ b - 128 + 128 * m.value → Taken k m bs → Taken (suc k) (number v (m.width + 1)) (b ∷ bs)
taken_more k b v m bs l h p e ih =
    let big : 128 ≤ v = omega arith in
    let d : v / 128 ≡ m.value = omega arith in
    let g : 128 + v % 128 ≡ b = omega arith in
    rw (le-ltb v 128 big, d, g, add-one m.width) (ap (λ (t : List ℕ). b ∷ t) ih.0, ap suc ih.1, omega (arith, ih.2, pow-suc 128 k))

-- whatever is decoded was encoded, and is no larger than k groups and a last one hold
taken : (k : ℕ) (n : Number) (bs : List ℕ) → AllBelowBase 256 bs → decoded_by (suc k) bs ≡ Ok n → Taken k n bs
taken k n [] u e = ok_err e
taken zero n (b ∷ bs) u e =
    ⊎_elim
    (λ (l : b < 128).
    let e₁ = rw (lt-ltb b 128 l) at e in
    ⊎_elim
    (λ (m : b < 64). let f = ok_parts (rw (le-ltb 63 b (omega arith)) at e₁) in rw (← f) (refl, refl, omega arith))
    (λ (m : 64 ≤ b). ok_err (rw (lt-ltb 63 b m) at e₁))
    (cases_lt b 64))
    (λ (l : 128 ≤ b). ok_err (rw (le-ltb b 128 l) at e))
    (cases_lt b 128)
taken (suc k) n (b ∷ bs) u e =
    ⊎_elim
    (λ (l : b < 128).
    let f = ok_parts (rw (lt-ltb b 128 l) at e) in
    let p = held k in
    rw (← f, lt-ltb b 128 l) (refl, refl, omega (arith, pow-suc 128 k)))
    (λ (l : 128 ≤ b).
    let f = more_ok _ n _ (rw (le-ltb b 128 l) at e) in
    rw (← f.3) (taken_more k b _ f.0 bs l u.0 f.2 refl (taken k f.0 bs u.1 f.1)))
    (cases_lt b 128)

at_least : (k m : ℕ) → 0 < length (encoded_by k m)
at_least zero m = omega arith
at_least (suc k) m = cond_both (ltb m 128) _ _ (λ (l : List ℕ). 0 < length l) (λ _. omega arith) (λ _. omega arith)

at_most : (k m : ℕ) → length (encoded_by k m) ≤ suc k
at_most zero m = omega arith
at_most (suc k) m = cond_both (ltb m 128) _ _ (λ (l : List ℕ). length l ≤ suc (suc k)) (λ _. omega arith) (λ _. omega (arith, at_most k (m / 128)))

pub encoded_some : (n : ℕ) → 0 < length (encoded n)
unfolding encoded
encoded_some n = at_least 6 n

pub encoded_short : (n : ℕ) → length (encoded n) ≤ 7
unfolding encoded
encoded_short n = at_most 6 n

pub read_back : ReadBack
unfolding decoded encoded
read_back n rest h = decodes 6 n rest (omega arith)

pub exact : (bs : List ℕ) (n : Number) → AllBelowBase 256 bs → decoded bs ≡ Ok n → Exact bs n
unfolding decoded encoded
exact bs n u e = let c = taken 6 n bs u e in record { front = c.0; width = c.1; small = omega (arith, c.2) }

-- what is read has bytes, and lies within the bytes
pub exact_within : (bs : List ℕ) (n : Number) → Exact bs n → (0 < n.width) × (n.width ≤ length bs)
exact_within bs n x = (omega (arith, x.width, encoded_some n.value), omega (arith, x.width, simp length-append at (ap length x.front)))

single : (k m : ℕ) → (0 < k → m < 128) → encoded_by k m ≡ m ∷ []
single zero m h = refl
single (suc k) m h = rw (lt-ltb m 128 (h (omega arith)))

-- i groups of n are counted, and `rest` is left
pub record Counting (n i rest : ℕ) : Type 0 where
  pub all : length (encoded n) ≡ i + length (encoded_by (6 - i) rest)

pub count_none : (n : ℕ) → Counting n 0 n
unfolding encoded
count_none n = record { all = omega arith }

pub count_more : (n i rest : ℕ) → Counting n i rest → i < 6 → 128 ≤ rest → Counting n (i + 1) (rest / 128)
count_more n i rest so h l =
    let k : 6 - i ≡ suc (6 - (i + 1)) = omega arith in
    record { all = so.all ∙ rw (k, le-ltb rest 128 l) (omega arith) }

pub count_all : (n i rest : ℕ) → Counting n i rest → (i < 6 → rest < 128) → length (encoded n) ≡ i + 1
count_all n i rest so h = so.all ∙ rw (single (6 - i) rest (λ p. h (omega arith))) refl

-- more bytes than one are those of a number with a group that others follow
longer : (k m : ℕ) → 1 < length (encoded_by k m) → (0 < k) × (128 ≤ m)
longer zero m h = absurd (omega arith)
longer (suc k) m h =
    ⊎_elim
    (λ (l : m < 128). absurd (let e = rw (lt-ltb m 128 l) at h in omega arith))
    (λ (l : 128 ≤ m). (omega arith, l))
    (cases_lt m 128)

-- one byte is the number's own
alone : (k m : ℕ) → length (encoded_by k m) ≡ 1 → (encoded_by k m ≡ m ∷ []) × (0 < k → m < 128)
alone zero m h = (refl, λ l. absurd (omega arith))
alone (suc k) m h =
    ⊎_elim
    (λ (l : m < 128). (rw (lt-ltb m 128 l) refl, λ _. l))
    (λ (l : 128 ≤ m). absurd (let e = rw (le-ltb m 128 l) at h in omega (arith, at_least k (m / 128))))
    (cases_lt m 128)

-- the first i groups of n are put in, in a space for all but the last, and `rest` is left to put
pub record Filling (n : ℕ) (groups : List ℕ) (i rest : ℕ) : Type 0 where
  pub whole : encoded n ≡ take i groups ++ encoded_by (6 - i) rest
  pub left : i + length (encoded_by (6 - i) rest) ≡ length groups + 1
  pub small : rest < 64 * 128 ^ (6 - i)

pub fill_none : (n : ℕ) (groups : List ℕ) → n ≤ largest → length groups + 1 ≡ length (encoded n) → Filling n groups 0 n
unfolding encoded
fill_none n groups h l = let e : length (encoded_by 6 n) ≡ length groups + 1 = sym l in record { whole = refl; left = omega (arith, e); small = omega arith }

module _ (n : ℕ) (groups : List ℕ) (i rest : ℕ) (so : Filling n groups i rest) where
  pub fill_more : i < length groups → Filling n (set groups i (128 + rest % 128)) (i + 1) (rest / 128)
  fill_more h =
      let more = longer (6 - i) rest (omega (arith, so.left)) in
      let k : 6 - i ≡ suc (6 - (i + 1)) = omega (arith, more.0) in
      let here : encoded_by (6 - i) rest ≡ (128 + rest % 128) ∷ encoded_by (6 - (i + 1)) (rest / 128) = rw (k, le-ltb rest 128 more.1) refl in
      let s : rest < 64 * 128 ^ suc (6 - (i + 1)) = rw k at so.small in
      record {
        whole = so.whole ∙ rw (take_more_set groups i (128 + rest % 128) h, here) (sym (append_assoc (take i groups) _ _));
        left = rw length-set (omega (arith, so.left, ap length here));
        small = div_below rest 128 (64 * 128 ^ (6 - (i + 1))) (omega arith) (omega (arith, pow-suc 128 (6 - (i + 1)), mul_assoc 64 (128 ^ (6 - (i + 1))) 128));
      }

  pub fill_all : i ≡ length groups → (encoded n ≡ groups ++ rest ∷ []) × (rest < 128)
  fill_all h =
      let one = alone (6 - i) rest (omega (arith, so.left)) in (
        so.whole ∙ rw (one.0, h, take_all (length groups) groups (omega arith)) refl,
        ⊎_elim (λ (l : 0 < 6 - i). one.1 l) (λ (l : 6 - i ≤ 0). let e : 6 - i ≡ 0 = omega arith in let s = rw e at so.small in omega arith) (cases_lt 0 (6 - i)),
      )

-- the byte behind the groups is set
pub set_last : (groups space : List ℕ) (i b : ℕ) → i ≡ length groups → length space ≡ i + 1 → set (groups ++ drop i space) i b ≡ groups ++ b ∷ []
set_last groups space i b e l =
    let all : length (groups ++ drop i space) ≡ i + 1 = simp (length-append, length-drop) (omega arith) in
    set_split (groups ++ drop i space) i b (omega (arith, all)) ∙ rw (take_at groups (drop i space) i (sym e), drop_all (suc i) (groups ++ drop i space) (omega (arith, all))) refl
