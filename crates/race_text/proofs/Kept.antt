-- Entries of two runs, side by side, apart from the exits of some scopes.
use Rattle.std.proofs.Common.{◌≡◌, ℕ, ◌<◌, ◌≤◌, Bool, true, false, List, [], ◌∷◌, length, drop, map, refl, sym, ap, ◌∙◌, cond, arith}
use Rattle.std.specs.Prelude.{nat_le}
use Rattle.std.proofs.lemmas.Bool.Decides.{nat_tests}
use Rattle.std.proofs.lemmas.List.{drop_all, length-map, length-drop}
use Rattle.job_meaning.specs.Shown.{Shown}
use Rattle.task_machine.specs.Noted.{entry_of}
use Rattle.task_machine.specs.declared.entry.Entry.{Entry}
use Rattle.race_text.specs.Same.{same_entries, is_exit_of, with_kept, kept_entries, begins_with_exit}
use Rattle.race_text.specs.RowViews.{shown_from, kept_from}

is_end : (m n : ℕ) → nat_le m n ≡ true → m ≤ n
is_end m n test = grind (arith, nat_tests)

is_no_end : (m n : ℕ) → nat_le m n ≡ false → n < m
is_no_end m n test = grind (arith, nat_tests)

-- no entry is left
shown_none : (es : List Entry) (n : ℕ) → length es ≤ n → shown_from es n ≡ []
shown_none es n le = ap (map entry_of) (drop_all n es le)

-- an entry that is no exit is kept
kept : (scope : List ℕ) (x : Shown) (xs : List Shown) → is_exit_of scope x ≡ false → with_kept scope x xs ≡ x ∷ xs
kept scope x xs none = ap (λ (b : Bool). cond b xs (x ∷ xs)) none

none_beside : (scope : List ℕ) (zs : List Shown) → (length zs ≡ 0 → ⊥) → begins_with_exit scope zs ≡ false →
    same_entries [] (kept_entries scope zs) ≡ false
none_beside scope [] some none = absurd (some refl)
none_beside scope (z ∷ zs) some none = ap (same_entries []) (kept scope z (kept_entries scope zs) none)

some_shown : (es : List Entry) (n : ℕ) → n < length es → length (shown_from es n) ≡ 0 → ⊥
some_shown es n lt none = omega (arith, lt, none, length-map (drop n es) entry_of, length-drop n es)

-- where no entry of the first run is left: whether one of the second is, by its next one that is kept
left_over : (scope : List ℕ) (es : List Entry) (from n : ℕ) (b : Bool) → nat_le (length es) n ≡ b → kept_from scope es n ≡ kept_from scope es from →
    begins_with_exit scope (shown_from es n) ≡ false → same_entries [] (kept_from scope es from) ≡ b
left_over scope es from n true is found is_kept =
    ap (same_entries []) (sym found ∙ ap (kept_entries scope) (shown_none es n (is_end (length es) n is)))
left_over scope es from n false is found is_kept =
    ap (same_entries []) (sym found) ∙ none_beside scope (shown_from es n) (some_shown es n (is_no_end (length es) n is)) is_kept

-- the same as what is wanted of all entries, if nothing of the first run is left
pub finished : (scope : List ℕ) (first es : List Entry) (i from n : ℕ) (wanted : Bool) → length first ≤ i →
    same_entries (kept_from scope first i) (kept_from scope es from) ≡ wanted → kept_from scope es n ≡ kept_from scope es from →
    begins_with_exit scope (shown_from es n) ≡ false → nat_le (length es) n ≡ wanted
finished scope first es i from n wanted le same found is_kept =
    sym (left_over scope es from n (nat_le (length es) n) refl found is_kept)
    ∙ sym (ap (λ (zs : List Shown). same_entries (kept_entries scope zs) (kept_from scope es from)) (shown_none first i le)) ∙ same
