-- The table of a meaning, made from the moments from which its scopes and nurseries are cancelled.
use Rattle.std.proofs.Common.{◌≡◌, ℕ, true≢false, Bool, true, false, ◌||◌, Option, None, List, [], ◌∷◌, ◌++◌, refl, sym, ap, ◌∙◌, subst, if◌then◌else◌}
use std.Path.{fun_ext}
use Rattle.job_tree.specs.Tree.{Tree}
use Rattle.exceptions.specs.Exceptions.{Label}
use Rattle.exceptions.specs.Labels.{same_label}
use Rattle.cancel_scopes.specs.Sight.{Tick}
use Rattle.job_meaning.specs.Log.{Log, nil, entry, sign, entered, act, task, Table, deadline_of, deadline_if, either, entered_from, least_sign}
use Rattle.job_meaning.specs.Meaning.{cancelled_from_by, entered_by, all_entered, root_log, meaning, meaning_table}
use Rattle.job_meaning.proofs.Distinct.{same_label_equal, same_label_itself}
use Rattle.job_story.specs.CancelledFrom.{never, set_in}
use Rattle.job_story.specs.Laws.{CancelledFromGivesTheTable}

-- whether a label is one of these
abbrev is_one : Label → List Label → Bool
is_one l [] = false
is_one l (m ∷ ms) = same_label l m || is_one l ms

or_false : (a b : Bool) → (a || b) ≡ false → (a ≡ false) × (b ≡ false)
or_false true b e = absurd (cc)
or_false false b e = (refl, e)

not_in_both : (l : Label) (ms ns : List Label) → is_one l (ms ++ ns) ≡ false → (is_one l ms ≡ false) × (is_one l ns ≡ false)
not_in_both l [] ns e = (refl, e)
not_in_both l (m ∷ ms) ns e =
    let h = or_false (same_label l m) (is_one l (ms ++ ns)) e in
    let r = not_in_both l ms ns h.1 in
    (ap (λ (b : Bool). b || is_one l ms) h.0 ∙ r.0, r.1)

-- a label that was not entered has no deadline
no_deadline : (l : Label) (log : Log) → is_one l (entered_by log) ≡ false → is_one l (all_entered log) ≡ false → deadline_of l log ≡ None
no_deadline l nil own all = refl
no_deadline l (entry t e rest) own all = no_deadline l rest own all
no_deadline l (sign m t rest) own all = no_deadline l rest own all
no_deadline l (entered m t d rest) own all =
    let h = or_false (same_label l m) (is_one l (entered_by rest)) own in
    ap (λ (b : Bool). either (deadline_if b d) (deadline_of l rest)) h.0 ∙ no_deadline l rest h.1 all
no_deadline l (act m t a rest) own all = no_deadline l rest own all
no_deadline l (task m s u e mine rest) own all =
    let first = not_in_both l (entered_by mine) (all_entered mine ++ all_entered rest) all in
    let second = not_in_both l (all_entered mine) (all_entered rest) first.1 in
    ap (λ (o : Option Tick). either o (deadline_of l rest)) (no_deadline l mine first.0 second.0) ∙ no_deadline l rest own second.1

-- after the moments that a table has for some labels are set, each of these has its moment, and every other what it had
set_is : (table before : Table) (ls : List Label) (l : Label) →
    set_in before (cancelled_from_by table ls) l ≡ (if is_one l ls then table l else before l)
set_is table before [] l = refl
set_is table before (m ∷ ms) l =
    set_is table (λ (k : Label). if same_label m k then table m else before k) ms l
    ∙ by_test (same_label m l) refl (is_one l ms)
  where
    by_test : (b : Bool) → same_label m l ≡ b → (rest : Bool) →
        (if rest then table l else (if same_label m l then table m else before l)) ≡ (if same_label l m || rest then table l else before l)
    by_test true e rest = by_rest rest
      where
        same : m ≡ l
        same = same_label_equal m l e

        other : same_label l m ≡ true
        other = subst (λ (k : Label). same_label l k ≡ true) (sym same) (same_label_itself l)

        by_rest : (rest : Bool) →
            (if rest then table l else (if same_label m l then table m else before l)) ≡ (if same_label l m || rest then table l else before l)
        by_rest true = ap (λ (b : Bool). if b || true then table l else before l) (sym other)
        by_rest false =
            ap (λ (b : Bool). if b then table m else before l) e ∙ ap table same
            ∙ ap (λ (b : Bool). if b || false then table l else before l) (sym other)
    by_test false e true = sym (or_true (same_label l m))
      where
        or_true : (b : Bool) → (if b || true then table l else before l) ≡ table l
        or_true true = refl
        or_true false = refl
    by_test false e false =
        ap (λ (b : Bool). if b then table m else before l) e
        ∙ ap (λ (b : Bool). if b || false then table l else before l) (sym (other (same_label l m) refl))
      where
        other : (b : Bool) → same_label l m ≡ b → same_label l m ≡ false
        other false k = k
        other true k = absurd (true≢false
            (sym (subst (λ (x : Label). same_label x l ≡ true) (same_label_equal l m k) (same_label_itself l)) ∙ e))

-- a label that no task entered is never cancelled
apart : (job : Tree) (input : List ℕ) (l : Label) (b : Bool) → is_one l (all_entered (root_log job (meaning job input))) ≡ b →
    (if b then meaning_table job input l else never l) ≡ meaning_table job input l
apart job input l true e = refl
apart job input l false e =
    let log : Log = (meaning job input).log in
    let parts = not_in_both l (entered_by log) (all_entered log ++ []) e in
    let none : deadline_of l log ≡ None = no_deadline l log parts.0 (not_in_both l (all_entered log) [] parts.1).0 in
    ap (λ (o : Option Tick). entered_from o (least_sign l log)) (sym none)

pub cancelled_from_gives_the_table : CancelledFromGivesTheTable
cancelled_from_gives_the_table job input =
    fun_ext (λ (l : Label).
    set_is (meaning_table job input) never (all_entered (root_log job (meaning job input))) l
    ∙ apart job input l (is_one l (all_entered (root_log job (meaning job input)))) refl)
