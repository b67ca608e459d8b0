-- Texts laid one behind the other, and how long they are. Assumes nothing.
use Rattle.std.proofs.Common.{◌≡◌, ℕ, suc, ◌+◌, ◌/◌, ◌≤◌, Bool, true, false, List, [], ◌∷◌, ◌++◌, length, take, drop, pos, negsuc}
use Rattle.std.proofs.Common.{sym, ap, ◌∙◌, ap₂, append_assoc, add_assoc, arith, length-append, length-drop, drop-drop}
use lib.Seq.{take-append_seam, drop-append_seam, drop-append-add}
use Rattle.buffer.specs.Buffer.{overwrite}
use Rattle.decimal.specs.Decimal.{decimal, max_digits}
use Rattle.decimal.proofs.Laws.{digits-few}
use Rattle.float.specs.Print.{printed_of}
use Rattle.float.specs.declared.print.Printed.{Printed}
use Rattle.float.specs.declared.print.Printed.TheVariants.{NotANumber, Infinite, Overflow, Hundredths}
use Rattle.number.specs.Text.{sign, decimals, printed_text, text_of, zeros}
use Rattle.number.specs.declared.Number.{Number}
use Rattle.number.specs.declared.Number.TheVariants.{Char, Int, Float}

-- a text of zeros with p in front
padded : List ℕ → List ℕ
padded p = p ++ drop (length p) zeros

laid_next : (p s : List ℕ) → overwrite (padded p) (length p) s ≡ padded (p ++ s)
unfolding padded
laid_next p s =
    ap₂ (λ (u v : List ℕ). (u ++ s) ++ v) (take-append_seam p (drop (length p) zeros))
    (drop-append-add p (drop (length p) zeros) (length s) ∙ drop-drop (length s) (length p) zeros
    ∙ ap (λ (n : ℕ). drop n zeros) (sym (length-append p s)))

module _ (h b t : List ℕ) {x y z : List ℕ} (ex : x ≡ overwrite zeros 0 h) (ey : y ≡ overwrite x (length h) b)
    (ez : z ≡ overwrite y (length h + length b) t) where
  one : x ≡ padded h
  unfolding padded
  one = ex ∙ laid_next [] h

  two : y ≡ padded (h ++ b)
  two = ey ∙ ap (λ (l : List ℕ). overwrite l (length h) b) one ∙ laid_next h b

  three : z ≡ padded (h ++ (b ++ t))
  three =
      ez ∙ ap₂ (λ (l : List ℕ) (n : ℕ). overwrite l n t) two (sym (length-append h b)) ∙ laid_next (h ++ b) t
      ∙ ap padded (append_assoc h b t)

  total : length h + length b + length t ≡ length (h ++ (b ++ t))
  total = add_assoc (length h) (length b) (length t) ∙ ap (λ (n : ℕ). length h + n) (sym (length-append b t))
      ∙ sym (length-append h (b ++ t))

  pub full : length h + length b + length t ≤ 16 → length z ≡ 16
  unfolding padded
  full fits =
      let p = h ++ (b ++ t) in
      let parts : length z ≡ length p + length (drop (length p) zeros) = ap length three
      ∙ length-append p (drop (length p) zeros) in
      omega (arith, parts, length-drop (length p) zeros, total, fits)

  pub text-first : take (length h + length b + length t) z ≡ h ++ (b ++ t)
  unfolding padded
  text-first = ap₂ (λ (n : ℕ) (l : List ℕ). take n l) total three
      ∙ take-append_seam (h ++ (b ++ t)) (drop (length (h ++ (b ++ t))) zeros)

  pub zeros-behind : drop (length h + length b + length t) z ≡ drop (length h + length b + length t) zeros
  unfolding padded
  zeros-behind = ap₂ (λ (n : ℕ) (l : List ℕ). drop n l) total three
      ∙ drop-append_seam (h ++ (b ++ t)) (drop (length (h ++ (b ++ t))) zeros)
      ∙ ap (λ (n : ℕ). drop n zeros) (sym total)

pub decimal-short : (n : ℕ) → length (decimal n) ≤ max_digits
decimal-short n = digits-few max_digits n

-- the longest text is that of -4294967040.00
sign-short : (s : Bool) (l : List ℕ) → length (sign s ++ l) ≤ 1 + length l
sign-short true l = omega arith
sign-short false l = omega arith

printed-short : (p : Printed) → length (printed_text p) ≤ 14
printed-short NotANumber = omega arith
printed-short (Infinite s) = omega (arith, sign-short s (105 ∷ 110 ∷ 102 ∷ []))
printed-short (Overflow s) = omega (arith, sign-short s (111 ∷ 118 ∷ 102 ∷ []))
printed-short (Hundredths s h) =
    omega (arith, sign-short s (decimal (h / 100) ++ decimals h), length-append (decimal (h / 100)) (decimals h), decimal-short (h / 100))

pub text-short : (a : Number) → length (text_of a) ≤ 14
unfolding text_of
text-short (Char x) = omega arith
text-short (Int (pos n)) = omega (arith, decimal-short n)
text-short (Int (negsuc n)) = omega (arith, decimal-short (suc n))
text-short (Float x) = printed-short (printed_of x)
