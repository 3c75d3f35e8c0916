-- The tests of a written number, and where the first space parts a text.
use Rattle.std.proofs.Common.{◌≡◌, ℕ, suc, ◌<◌, true, false, ◌&&◌, eqb, ltb, List, [], ◌∷◌, ◌++◌, length, get_or, ℤ, pos, negsuc, Some, None, Ok, Err, Result, Decides, sym, refl, ap, ◌∙◌, ⊎_elim, arith, w64, SFits}
use Rattle.std.specs.Option.{option_map}
use Rattle.std.specs.Result.{result_ok}
use Rattle.std.specs.Str.Parse.{AllDigits, IsNumeral, ParsesSigned, without_leading_sign, signed_digits_value}
use Rattle.std.specs.Str.{all_ascii_digits}
use Rattle.std.proofs.lemmas.Str.Parse.{IsNumeralModel, numerals_by_value, tells_all_ascii_digits}
use Rattle.std.proofs.lemmas.Bool.{and_parts, and_from, ltb-true, lt-ltb, cases_Bool, cond-true, cond-false, ne_eqb}
use Rattle.std.proofs.lemmas.Bool.Decides.{nat_tests, Decides-and}
use Rattle.lines.specs.Numbers.{written, wide, numeral, split, taken, taken_from}

own : IsNumeralModel (λ ds. all_ascii_digits ds ≡ true) (Rattle.std.specs.Str.Parse.digits_value 10)
own = numerals_by_value (λ ds. all_ascii_digits ds ≡ true) tells_all_ascii_digits

decides_written : (text : List ℕ) → Decides (written text) (IsNumeral 10 (without_leading_sign text))
unfolding written
decides_written text =
    let ds = without_leading_sign text in (
      (λ h. let ab = and_parts (ltb 0 (length ds)) (all_ascii_digits ds) h in (ltb-true 0 (length ds) ab.0, own.to ds ab.1)),
      (λ n. and_from (ltb 0 (length ds)) (all_ascii_digits ds) (lt-ltb 0 (length ds) n.0) (own.from ds n.1)),
    )

decides_wide : (z : ℤ) → Decides (wide z) (SFits w64 z)
unfolding wide
decides_wide (pos n) = ((λ h. record { sfits = grind (arith, nat_tests) }), (λ f. let g = f.sfits in grind (arith, nat_tests)))
decides_wide (negsuc n) = ((λ h. record { sfits = grind (arith, nat_tests) }), (λ f. let g = f.sfits in grind (arith, nat_tests)))

decides_numeral : (text : List ℕ) → Decides (written text && wide (signed_digits_value 10 text)) (IsNumeral 10 (without_leading_sign text) × SFits w64 (signed_digits_value 10 text))
decides_numeral text = Decides-and (written text) (wide (signed_digits_value 10 text)) (decides_written text) (decides_wide (signed_digits_value 10 text))

-- what `parse` read is what the text writes, and where it read nothing the text writes no number
pub numeral_some : (text : List ℕ) (n : ℤ) → IsNumeral 10 (without_leading_sign text) × SFits w64 (signed_digits_value 10 text) → n ≡ signed_digits_value 10 text → Some n ≡ numeral text
numeral_some text n p e =
    ap (λ z. Some z) e ∙ sym (cond-true (written text && wide (signed_digits_value 10 text)) (Some (signed_digits_value 10 text)) None ((decides_numeral text).1 p))

pub numeral_none : (text : List ℕ) → (IsNumeral 10 (without_leading_sign text) × SFits w64 (signed_digits_value 10 text) → ⊥) → None ≡ numeral text
numeral_none text out =
    let b = written text && wide (signed_digits_value 10 text) in
    sym (cond-false b (Some (signed_digits_value 10 text)) None (⊎_elim (λ t. absurd (out ((decides_numeral text).0 t))) (λ f. f) (cases_Bool b)))

-- what `parse` answered, as an option
pub numeral_parsed : {E : Type 0} (text : List ℕ) (r : Result ℤ E) → ParsesSigned w64 10 text r → result_ok r ≡ numeral text
numeral_parsed text (Ok n) h = numeral_some text n h.0 h.1
numeral_parsed text (Err e) h = numeral_none text h

-- a text parts at the first space
pub split_at : (xs ys : List ℕ) → ((i : ℕ) → i < length xs → get_or xs i 0 ≡ 32 → ⊥) → split (xs ++ (32 ∷ ys)) ≡ Some (xs, ys)
split_at [] ys out = refl
split_at (x ∷ xs) ys out =
    let ih = split_at xs ys (λ i h e. out (suc i) (omega arith) e) in
    let n : eqb x 32 ≡ false = ne_eqb x 32 (out 0 (omega arith)) in
    cond-false (eqb x 32) (Some ([], xs ++ (32 ∷ ys))) (option_map (λ p. (x ∷ p.0, p.1)) (split (xs ++ (32 ∷ ys)))) n ∙ ap (option_map (λ p. (x ∷ p.0, p.1))) ih

pub split_none : (xs : List ℕ) → ((i : ℕ) → i < length xs → get_or xs i 0 ≡ 32 → ⊥) → split xs ≡ None
split_none [] out = refl
split_none (x ∷ xs) out =
    let ih = split_none xs (λ i h e. out (suc i) (omega arith) e) in
    let n : eqb x 32 ≡ false = ne_eqb x 32 (out 0 (omega arith)) in
    cond-false (eqb x 32) (Some ([], xs)) (option_map (λ p. (x ∷ p.0, p.1)) (split xs)) n ∙ ap (option_map (λ p. (x ∷ p.0, p.1))) ih

module _ (text first rest : List ℕ) (is : text ≡ first ++ (32 ∷ rest)) (out : (i : ℕ) → i < length first → get_or first i 0 ≡ 32 → ⊥) where
  taken_is : taken text ≡ option_map (λ n. (n, rest)) (numeral first)
  taken_is = ap taken is ∙ ap taken_from (split_at first rest out)

  pub taken_some : (n : ℤ) → Some n ≡ numeral first → Some (n, rest) ≡ taken text
  taken_some n h = ap (option_map (λ m. (m, rest))) h ∙ sym taken_is

  pub taken_none : None ≡ numeral first → None ≡ taken text
  taken_none h = ap (option_map (λ m. (m, rest))) h ∙ sym taken_is

pub taken_whole : (text : List ℕ) → ((i : ℕ) → i < length text → get_or text i 0 ≡ 32 → ⊥) → None ≡ taken text
taken_whole text out = sym (ap taken_from (split_none text out))
