-- What a unit of a string is that was read, and that its canonical spelling is no longer.
use Rattle.std.proofs.Common.{◌≡◌, ℕ, ◌+◌, ◌-◌, ◌*◌, ◌<◌, ◌≤◌, Bool, true, false, cond, eqb, ◌&&◌, ◌||◌, leb, List, [], ◌∷◌, length, Option, Some, None, ◌⊎◌, inl, inr, refl, sym, ap, subst, ◌∙◌, arith}
use Rattle.std.proofs.lemmas.Bool.{leb-true, eqb-true}
use Rattle.job_tree.specs.Words.{is_digit}
use Rattle.job_tokens.specs.Lexing.{Unit_read, hex_value, byte_of, hex_at, escape_at, unit_at, is_plain, after_quote}
use Rattle.job_tokens.specs.Canon.{unit}
use Rattle.job_tokens.proofs.Round_bytes.{and_parts, either_way, chosen}

some_is : {A : Type 0} (o : Option A) (x y : A) → o ≡ Some x → o ≡ Some y → x ≡ y
some_is o x y p q = cc

no_some : {A : Type 0} (x : A) → None ≡ Some x → ⊥
no_some x e = cc

same : {A : Type 0} (x y : A) → Some x ≡ Some y → x ≡ y
same x y e = cc

-- ---- units

length-unit : (b : ℕ) → length (unit b) ≤ 4
length-unit b = by_escape (either_way (eqb b 34 || eqb b 92)) (either_way (is_plain b))
  where
    by_escape : ((eqb b 34 || eqb b 92) ≡ true) ⊎ ((eqb b 34 || eqb b 92) ≡ false) → ((is_plain b ≡ true) ⊎ (is_plain b ≡ false)) →
        length (unit b) ≤ 4
    by_escape (inl e) p = rw e (omega arith)
    by_escape (inr e) (inl p) = rw (e, p) (omega arith)
    by_escape (inr e) (inr p) = rw (e, p) (omega arith)

-- a byte of a string, no longer in its canonical form than in the text
pub record IsUnit (bytes : List ℕ) (b : ℕ) (rest : List ℕ) : Type 0 where
  pub small : b < 256
  pub shorter : length (unit b) + length rest ≤ length bytes

hex_small : (h v : ℕ) → hex_value h ≡ Some v → v < 16
hex_small h v e = by_digit (chosen (is_digit h) (Some (h - 48)) (cond (leb 97 h && leb h 102) (Some (h - 87)) None) (Some v) e)
  where
    by_letter : ((leb 97 h && leb h 102) ≡ true) × (Some (h - 87) ≡ Some v) ⊎ ((leb 97 h && leb h 102) ≡ false) × (None ≡ Some v) → v < 16
    by_letter (inl (t, e)) = omega (arith, same (h - 87) v e, leb-true h 102 (and_parts (leb 97 h) (leb h 102) t).1)
    by_letter (inr (f, e)) = absurd (no_some v e)

    by_digit : (is_digit h ≡ true) × (Some (h - 48) ≡ Some v) ⊎ (is_digit h ≡ false)
        × (cond (leb 97 h && leb h 102) (Some (h - 87)) None ≡ Some v) → v < 16
    by_digit (inl (t, e)) = omega (arith, same (h - 48) v e, leb-true h 57 (and_parts (leb 48 h) (leb h 57) t).1)
    by_digit (inr (f, e)) = by_letter (chosen (leb 97 h && leb h 102) (Some (h - 87)) None (Some v) e)

abbrev found : ℕ × List ℕ → Unit_read
found p = Some p

unit_pair : (a b : ℕ × List ℕ) → found a ≡ found b → a ≡ b
unit_pair a b e = cc

unit_is : (bytes : List ℕ) (a b : ℕ × List ℕ) → found a ≡ found b → IsUnit bytes a.0 a.1 → IsUnit bytes b.0 b.1
unit_is bytes a b e is = subst (λ (p : ℕ × List ℕ). IsUnit bytes p.0 p.1) (unit_pair a b e) is

hex_unit : (h l : ℕ) (rest : List ℕ) (high low : Option ℕ) (b : ℕ) (after : List ℕ) → hex_value h ≡ high → hex_value l ≡ low →
    byte_of high low rest ≡ Some (b, after) → IsUnit (92 ∷ 120 ∷ h ∷ l ∷ rest) b after
hex_unit h l rest None low b after p q e = absurd (no_some (b, after) e)
hex_unit h l rest (Some v) None b after p q e = absurd (no_some (b, after) e)
hex_unit h l rest (Some v) (Some w) b after p q e =
    unit_is (92 ∷ 120 ∷ h ∷ l ∷ rest) (16 * v + w, rest) (b, after) e
    (record { small = omega (arith, hex_small h v p, hex_small l w q); shorter = omega (arith, length-unit (16 * v + w)) })

escape_unit : (bytes : List ℕ) (b : ℕ) (after : List ℕ) → escape_at bytes ≡ Some (b, after) → IsUnit (92 ∷ bytes) b after
escape_unit [] b after e = absurd (no_some (b, after) e)
escape_unit (c ∷ rest) b after e =
    by_self (chosen (eqb c 34 || eqb c 92) (found (c, rest)) (cond (eqb c 120) (hex_at rest) None) (Some (b, after)) e)
  where
    hexed : (r : List ℕ) → hex_at r ≡ Some (b, after) → IsUnit (92 ∷ 120 ∷ r) b after
    hexed [] e = absurd (no_some (b, after) e)
    hexed (h ∷ []) e = absurd (no_some (b, after) e)
    hexed (h ∷ l ∷ r) e = hex_unit h l r (hex_value h) (hex_value l) b after refl refl e

    by_hex : (eqb c 120 ≡ true) × (hex_at rest ≡ found (b, after)) ⊎ (eqb c 120 ≡ false) × (None ≡ found (b, after)) →
        IsUnit (92 ∷ c ∷ rest) b after
    by_hex (inl (t, e)) = subst (λ (x : ℕ). IsUnit (92 ∷ x ∷ rest) b after) (sym (eqb-true c 120 t)) (hexed rest e)
    by_hex (inr (f, e)) = absurd (no_some (b, after) e)

    itself : (eqb c 34 || eqb c 92) ≡ true → IsUnit (92 ∷ c ∷ rest) c rest
    itself t = record {
      small = small_of (either_way (eqb c 34));
      shorter = let spelled : length (unit c) ≡ 2 = rw t refl in
          omega (arith, spelled);
    }
      where
        small_of : (eqb c 34 ≡ true) ⊎ (eqb c 34 ≡ false) → c < 256
        small_of (inl p) = omega (arith, eqb-true c 34 p)
        small_of (inr p) = let q : eqb c 92 ≡ true = sym (ap (λ (x : Bool). x || eqb c 92) p) ∙ t in omega (arith, eqb-true c 92 q)

    by_self : ((eqb c 34 || eqb c 92) ≡ true) × (found (c, rest) ≡ Some (b, after)) ⊎ ((eqb c 34 || eqb c 92) ≡ false)
        × (cond (eqb c 120) (hex_at rest) None ≡ Some (b, after)) → IsUnit (92 ∷ c ∷ rest) b after
    by_self (inl (t, e)) = unit_is (92 ∷ c ∷ rest) (c, rest) (b, after) e (itself t)
    by_self (inr (f, e)) = by_hex (chosen (eqb c 120) (hex_at rest) None (Some (b, after)) e)

abbrev not_quoted : Bool → List ℕ → Option (List ℕ)
not_quoted b rest = cond b (Some rest) None

no_quote : (b : Bool) (rest : List ℕ) → not_quoted b rest ≡ None → b ≡ false
no_quote true rest e = absurd (no_some rest (sym e))
no_quote false rest e = refl

-- a unit that is read, where no quote comes first, is a byte whose canonical form is no longer than its spelling
pub read_unit : (bytes : List ℕ) (b : ℕ) (after : List ℕ) → after_quote bytes ≡ None → unit_at bytes ≡ Some (b, after) →
    IsUnit bytes b after
read_unit [] b after q e = absurd (no_some (b, after) e)
read_unit (c ∷ rest) b after q e =
    by_escape (chosen (eqb c 92) (escape_at rest) (cond (is_plain c) (found (c, rest)) None) (Some (b, after)) e)
  where
    itself : eqb c 92 ≡ false → is_plain c ≡ true → IsUnit (c ∷ rest) c rest
    itself f t =
        let quote : (eqb c 34 || eqb c 92) ≡ false = ap (λ (x : Bool). x || eqb c 92) (no_quote (eqb c 34) rest q) ∙ f in
        let spelled : length (unit c) ≡ 1 = rw (quote, t) refl in
        record { small = omega (arith, leb-true c 126 (and_parts (leb 32 c) (leb c 126) t).1); shorter = omega (arith, spelled) }

    by_plain : eqb c 92 ≡ false → (is_plain c ≡ true) × (found (c, rest) ≡ Some (b, after)) ⊎ (is_plain c ≡ false)
        × (None ≡ found (b, after)) → IsUnit (c ∷ rest) b after
    by_plain f (inl (t, e)) = unit_is (c ∷ rest) (c, rest) (b, after) e (itself f t)
    by_plain f (inr (g, e)) = absurd (no_some (b, after) e)

    by_escape : (eqb c 92 ≡ true) × (escape_at rest ≡ found (b, after)) ⊎ (eqb c 92 ≡ false)
        × (cond (is_plain c) (found (c, rest)) None ≡ Some (b, after)) → IsUnit (c ∷ rest) b after
    by_escape (inl (t, e)) = subst (λ (x : ℕ). IsUnit (x ∷ rest) b after) (sym (eqb-true c 92 t)) (escape_unit rest b after e)
    by_escape (inr (f, e)) = by_plain f (chosen (is_plain c) (found (c, rest)) None (Some (b, after)) e)
