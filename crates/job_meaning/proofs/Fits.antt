-- When a table fits a log, and how that passes to the parts of the log.
use Rattle.std.proofs.Common.{◌≡◌, ℕ, ◌+◌, ◌≤◌, min, Option, Some, None, refl, ap, sym, ◌∙◌, ◌⊎◌, inl, inr, arith}
use Rattle.exceptions.specs.Exceptions.{Label}
use Rattle.cancel_scopes.specs.Sight.{Tick, earlier}
use Rattle.job_meaning.specs.Log.{Log, followed_by, Result, least_sign, deadline_of, either, from_by, Table, table_of, entered_from}
use Rattle.job_meaning.specs.Walk.{Stack}
use Rattle.job_meaning.specs.Before.{upto}
use Rattle.job_meaning.proofs.Clips.{upto_earlier, upto_most}
use Rattle.job_meaning.proofs.Touched.{Gives, Signs, deadline_followed, least_followed, deadline_entered, no_deadline, no_sign, earlier_never}
use Rattle.job_meaning.proofs.Distinct.{OnStack}
use Rattle.job_meaning.proofs.Tidy.{Tidy}

-- a table has, for each label entered in a log, the lesser of its deadline and the tick after its first sign there
pub record Fits (table : Table) (a : Log) : Type 0 where
  pub each_label : (l : Label) (d : Tick) → deadline_of l a ≡ Some d → table l ≡ from_by d (least_sign l a)

-- the table of a log fits it
pub fits_own : (a : Log) → Fits (table_of a) a
fits_own a = record { each_label = λ l d e. ap (λ (o : Option Tick). entered_from o (least_sign l a)) e }

-- two logs in which no label of the one is entered or signed in the other
pub record Apart (a b : Log) : Type 0 where
  pub unsigned_after : (l : Label) → Gives l a → Signs l b → ⊥
  pub entered_once : (l : Label) → Gives l a → Gives l b → ⊥
  pub unsigned_before : (l : Label) → Gives l b → Signs l a → ⊥

-- a table that fits one log after another fits both
pub fits_first : (table : Table) (a b : Log) → Apart a b → Fits table (followed_by a b) → Fits table a
fits_first table a b h f = record { each_label = own }
  where
    own : (l : Label) (d : Tick) → deadline_of l a ≡ Some d → table l ≡ from_by d (least_sign l a)
    own l d e = f.each_label l d found ∙ ap (λ (s : Tick). from_by d s) signs_same
      where
        found : deadline_of l (followed_by a b) ≡ Some d
        found = deadline_followed l a b ∙ ap (λ (o : Option Tick). either o (deadline_of l b)) e

        quiet : least_sign l b ≡ None
        quiet = no_sign l b (h.unsigned_after l (deadline_entered l a d e))

        signs_same : least_sign l (followed_by a b) ≡ least_sign l a
        signs_same = least_followed l a b ∙ (ap (λ (s : Tick). earlier (least_sign l a) s) quiet ∙ earlier_never (least_sign l a))

-- it fits the second of them too
pub fits_second : (table : Table) (a b : Log) → Apart a b → Fits table (followed_by a b) → Fits table b
fits_second table a b h f = record { each_label = own }
  where
    own : (l : Label) (d : Tick) → deadline_of l b ≡ Some d → table l ≡ from_by d (least_sign l b)
    own l d e = f.each_label l d found ∙ ap (λ (s : Tick). from_by d s) signs_same
      where
        there : Gives l b
        there = deadline_entered l b d e

        not_here : deadline_of l a ≡ None
        not_here = no_deadline l a (λ i. h.entered_once l i there)

        found : deadline_of l (followed_by a b) ≡ Some d
        found = deadline_followed l a b ∙ (ap (λ (o : Option Tick). either o (deadline_of l b)) not_here ∙ e)

        quiet : least_sign l a ≡ None
        quiet = no_sign l a (h.unsigned_before l there)

        signs_same : least_sign l (followed_by a b) ≡ least_sign l b
        signs_same = least_followed l a b ∙ ap (λ (s : Tick). earlier s (least_sign l b)) quiet

-- walks on one stack, whose labels differ and are not on the stack, have logs apart
pub apart_tidy : (st : Stack) (P Q : Label → Type 0) (r q : Result) → Tidy st P r → Tidy st Q q →
    ((l : Label) → P l → Q l → ⊥) → ((l : Label) → OnStack l st → P l → ⊥) → ((l : Label) → OnStack l st → Q l → ⊥) → Apart r.log q.log
apart_tidy st P Q r q h k differ first second =
    record {
      unsigned_after = λ l e s. later l (h.gives l e) (k.signs l s);
      entered_once = λ l e i. differ l (h.gives l e) (k.gives l i);
      unsigned_before = λ l e s. before l (k.gives l e) (h.signs l s);
    }
  where
    later : (l : Label) → P l → OnStack l st ⊎ Gives l q.log → ⊥
    later l p (inl o) = first l o p
    later l p (inr e) = differ l p (k.gives l e)

    before : (l : Label) → Q l → OnStack l st ⊎ Gives l r.log → ⊥
    before l p (inl o) = second l o p
    before l p (inr e) = differ l (h.gives l e) p

-- Where two walks of a block agree as far as its moments of cancellation do, its first sign is the same in both: that of the walk
-- with its deadline as the from, and that of the walk with the from that follows.
pub same_first_sign : (d s u : Tick) → ((c : ℕ) → upto c d ≡ upto c (from_by d s) → upto c s ≡ upto c u) → u ≡ s
same_first_sign d None None h = refl
same_first_sign d None (Some m) h =
    let e = h (m + 1) (ap (λ (x : Tick). upto (m + 1) x) (sym (earlier_never d))) in
    absurd (omega arith)
same_first_sign d (Some n) u h =
    by_sign u (h (n + 1) (least_same (upto (n + 1) d) (upto_most (n + 1) d) ∙ sym (upto_earlier (n + 1) d (Some (n + 1)))))
  where
    least_same : (x : ℕ) → x ≤ n + 1 → x ≡ min x (min (n + 1) (n + 1))
    least_same x le = omega arith

    by_sign : (v : Tick) → min (n + 1) n ≡ upto (n + 1) v → v ≡ Some n
    by_sign None e = absurd (omega arith)
    by_sign (Some m) e = ap (λ (x : ℕ). Some x) (omega arith)
