-- Lists whose members have their indices.
use Rattle.std.proofs.Common.{◌≡◌, ◌≢◌, ◌⊎◌, ℕ, ◌+◌, ◌-◌, ◌<◌, ◌≤◌, List, [], ◌∷◌, ◌++◌, length, get_or, Option, Some, None, sym, ap, subst, ◌∙◌, arith, inl, inr}
use Rattle.std.proofs.lemmas.Bool.{cases_eq, cases_lt}
use Rattle.std.proofs.lemmas.List.{length-append, get_or_append_left}
use Rattle.std.proofs.Math.Seq.{get_or-append_seam}
use Rattle.cancel_scopes.specs.Kept.{IsPlaced}

-- two values of one option
pub some_same : (a b : ℕ) → Some a ≡ Some b → a ≡ b
some_same a b e = cc

-- no option is both
pub none_some : {X : Type 0} (o : Option ℕ) (a : ℕ) → o ≡ None → o ≡ Some a → X
none_some o a none some = absurd (let e : None ≡ Some a = sym none ∙ some in cc)

-- a key that had no index is appended
pub placed-push : (old new : ℕ → Option ℕ) (list : List ℕ) (key : ℕ) → IsPlaced old list → old key ≡ None → new key ≡ Some (length list) →
    ((other : ℕ) → other ≢ key → new other ≡ old other) → IsPlaced new (list ++ key ∷ [])
placed-push old new list key h free here others =
    let long : length (list ++ key ∷ []) ≡ length list + 1 = length-append list (key ∷ []) in
    record {
      stands = λ k index at. elim (cases_eq k key) [
        | inl same ↦
            let p : index ≡ length list = some_same index (length list) (sym at ∙ ap new same ∙ here) in
            (omega (arith, p, long), ap (λ (n : ℕ). get_or (list ++ key ∷ []) n 0) p ∙ get_or-append_seam list key [] 0 ∙ sym same)
        | inr differs ↦
            let s = h.stands k index (sym (others k differs) ∙ at) in
            (omega (arith, s.0, long), get_or_append_left list (key ∷ []) 0 index s.0 ∙ s.1)
      ];
      placed = λ index within. elim (cases_lt index (length list)) [
        | inl before ↦
            let e : get_or (list ++ key ∷ []) index 0 ≡ get_or list index 0 = get_or_append_left list (key ∷ []) 0 index before in
            let was : old (get_or list index 0) ≡ Some index = h.placed index before in
            let differs : get_or list index 0 ≢ key = λ same. none_some (old key) index free (sym (ap old same) ∙ was) in
            ap new e ∙ others (get_or list index 0) differs ∙ was
        | inr past ↦
            let p : index ≡ length list = omega (arith, long, within, past) in
            ap new (ap (λ (n : ℕ). get_or (list ++ key ∷ []) n 0) p ∙ get_or-append_seam list key [] 0) ∙ here ∙ ap Some (sym p)
      ];
    }

-- the rest of a list when one element is removed and the last one moves to its index
pub record Removed (list rest : List ℕ) (index : ℕ) : Type 0 where
  pub long : length rest + 1 ≡ length list
  pub seam : index + 1 < length list → get_or rest index 0 ≡ get_or list (length list - 1) 0
  pub keeps : (k : ℕ) → k ≢ index → k + 1 < length list → get_or rest k 0 ≡ get_or list k 0

-- the same from what `swap_remove` says
pub removed : (list rest : List ℕ) (index n m : ℕ) → n ≡ length list → m ≡ length rest → m + 1 ≡ n →
    ((d : ℕ) → index + 1 < n → get_or rest index d ≡ get_or list (n - 1) d) →
    ((k d : ℕ) → k ≢ index → k + 1 < n → get_or rest k d ≡ get_or list k d) → Removed list rest index
removed list rest index n m long short less seam keeps = record {
  long = omega (arith, long, short, less);
  seam = λ inside. seam 0 (omega (arith, inside, long)) ∙ ap (λ (k : ℕ). get_or list (k - 1) 0) long;
  keeps = λ k differs inside. keeps k 0 differs (omega (arith, inside, long));
}

-- a key is removed, and the last one moves to its index
pub placed-removed : (old new : ℕ → Option ℕ) (list rest : List ℕ) (key index : ℕ) → IsPlaced old list → old key ≡ Some index →
    length rest + 1 ≡ length list → (index + 1 < length list → get_or rest index 0 ≡ get_or list (length list - 1) 0) →
    ((k : ℕ) → k ≢ index → k + 1 < length list → get_or rest k 0 ≡ get_or list k 0) → new key ≡ None →
    (index < length rest → new (get_or rest index 0) ≡ Some index) →
    ((other : ℕ) → other ≢ key → (index < length rest → other ≢ get_or rest index 0) → new other ≡ old other) → IsPlaced new rest
placed-removed old new list rest key index h at long seam keeps freed moved others = record {
  stands = λ k p stood. stands_again k p stood;
  placed = λ p within. placed_again p within;
}
  where
    other_index : (k p : ℕ) → k ≢ key → old k ≡ Some p → (index < length rest → k ≢ get_or rest index 0) → (p < length rest)
        × (get_or rest p 0 ≡ k)
    other_index k p differs was apart =
        let s = h.stands k p was in
        let t = h.stands key index at in
        let elsewhere : p ≢ index = λ same. differs (sym s.1 ∙ ap (λ (n : ℕ). get_or list n 0) same ∙ t.1) in
        let inner : p + 1 < length list = by_last s.0 s.1 t.0 elsewhere (cases_lt (p + 1) (length list)) in
        (omega (arith, inner, long), keeps p elsewhere inner ∙ s.1)
      where
        by_last : p < length list → get_or list p 0 ≡ k → index < length list → p ≢ index → (p + 1 < length list) ⊎ (length list ≤ p + 1) →
            p + 1 < length list
        by_last in_list found placed elsewhere (inl h) = h
        by_last in_list found placed elsewhere (inr past) =
            let last : p ≡ length list - 1 = omega (arith, in_list, past) in
            absurd (elsewhere_or (cases_lt index (length list - 1)))
          where
            elsewhere_or : (index < length list - 1) ⊎ (length list - 1 ≤ index) → ⊥
            elsewhere_or (inl inside) =
                let last : p ≡ length list - 1 = omega (arith, in_list, past) in
                apart (omega (arith, inside, long)) (sym found ∙ ap (λ (n : ℕ). get_or list n 0) last ∙ sym (seam (omega (arith, inside))))
            elsewhere_or (inr out) = elsewhere (omega (arith, in_list, past, placed, out))

    stands_again : (k p : ℕ) → new k ≡ Some p → (p < length rest) × (get_or rest p 0 ≡ k)
    stands_again k p stood =
        elim (cases_eq k key) [
          | inl same ↦ none_some (new key) p freed (sym (ap new same) ∙ stood)
          | inr differs ↦
              elim (cases_lt index (length rest)) [
                | inl inside ↦
                    elim (cases_eq k (get_or rest index 0)) [
                      | inl same ↦
                          let e : p ≡ index = some_same p index (sym stood ∙ ap new same ∙ moved inside) in
                          (omega (arith, e, inside), ap (λ (n : ℕ). get_or rest n 0) e ∙ sym same)
                      | inr apart ↦ other_index k p differs (sym (others k differs (λ _. apart)) ∙ stood) (λ _. apart)
                    ]
                | inr out ↦
                    let apart : index < length rest → k ≢ get_or rest index 0 = λ inside. absurd (omega (arith, inside, out)) in
                    other_index k p differs (sym (others k differs apart) ∙ stood) apart
              ]
        ]

    placed_again : (p : ℕ) → p < length rest → new (get_or rest p 0) ≡ Some p
    placed_again p within =
        elim (cases_eq p index) [
          | inl same ↦ ap (λ (n : ℕ). new (get_or rest n 0)) same ∙ moved (subst (λ (n : ℕ). n < length rest) same within)
              ∙ ap Some (sym same)
          | inr elsewhere ↦
              let e : get_or rest p 0 ≡ get_or list p 0 = keeps p elsewhere (omega (arith, within, long)) in
              let was : old (get_or list p 0) ≡ Some p = h.placed p (omega (arith, within, long)) in
              let differs : get_or rest p 0 ≢ key = λ same. elsewhere (some_same p index (sym was ∙ ap old (sym e ∙ same) ∙ at)) in
              let apart : index < length rest → get_or rest p 0 ≢ get_or rest index 0 = λ inside same.
              let last : old (get_or list (length list - 1) 0) ≡ Some (length list - 1) =
              h.placed (length list - 1) (omega (arith, inside, long)) in
              let q : p ≡ length list - 1 = some_same p (length list - 1) (sym was
              ∙ ap old (sym e ∙ same ∙ seam (omega (arith, inside, long))) ∙ last) in
              absurd (omega (arith, q, within, long)) in
              others (get_or rest p 0) differs apart ∙ ap old e ∙ was
        ]
