-- What limiters and channels grant in a walk with what they grant: it is determined, and the meaning has it.
use Rattle.std.proofs.Common.{◌≡◌, ℕ, zero, suc, ◌+◌, ◌*◌, ◌≤◌, max, Bool, true, false, Option, Some, None, List, ◌++◌, length, refl, ap, sym, ◌∙◌, arith, nat_le}
use Rattle.std.proofs.Math.Path.{fun_ext}
use Rattle.std.proofs.lemmas.Bool.Decides.{nat_tests}
use Rattle.job_tree.specs.Tree.{Tree}
use Rattle.job_tree.specs.Names.{size_of}
use Rattle.job_tree.specs.InRange.{IsInRange}
use Rattle.exceptions.specs.Exceptions.{Label}
use Rattle.job_meaning.specs.Log.{Log, nil, entry, sign, entered, act, task, Result, same_label}
use Rattle.job_meaning.specs.Sharing.{done_if, own_acts, acts_in, by_moment, unopened, serve_acts, Granted, granted_if, Grants, grants_of, granted_before}
use Rattle.job_meaning.specs.Moments.{clock_of, only_at}
use Rattle.job_meaning.specs.declared.clock.Clock.{Clock}
use Rattle.job_meaning.specs.declared.clock.Clock.TheVariants.{ByTicks as by_ticks, ByRounds as by_rounds}
use Rattle.job_meaning.specs.declared.limits.TheConstants.{MAX_INPUT}
use Rattle.job_meaning.specs.Walk.{no_stack, two_walks}
use Rattle.job_meaning.specs.Meaning.{root_walk, root_here, root_log, granted_by, last_moment, meaning_grants}
use Rattle.job_meaning.specs.Before.{NearGrants}
use Rattle.job_meaning.proofs.Late.{late}
use Rattle.job_meaning.proofs.Causality.{agree}
use Rattle.job_meaning.proofs.Ends.{reach, span, ActsBy, at_most_a_million, root_ends_by}
use Rattle.job_meaning.proofs.GrantsBefore.{Each, OnGranted, each_append, each_by_moment, each_served, found_given, granted_from, near_grants}

-- what is granted by a walk with what is granted
abbrev pub granted_in : Grants → Tree → List ℕ → Grants
granted_in grants job input = grants_of (root_log job (root_walk (two_walks grants) job input))

-- if grants are the same before c, those by their walks are the same up to c
pub walks_grant : (c : ℕ) (job : Tree) (input : List ℕ) (grants other : Grants) → NearGrants c grants other →
    NearGrants (suc c) (granted_in grants job input) (granted_in other job input)
walks_grant c job input grants other near =
    near_grants c job (root_walk (two_walks grants) job input) (root_walk (two_walks other) job input)
    (late (two_walks grants) job.steps (root_here job input) no_stack (only_at 0)).timed
    (late (two_walks other) job.steps (root_here job input) no_stack (only_at 0)).timed
    (agree c (two_walks grants) (two_walks other) job.steps (root_here job input) no_stack no_stack (only_at 0) near (tt, tt))

-- nothing is granted before moment 0
before_none : (o : Option Granted) → granted_before 0 o ≡ None
before_none None = refl
before_none (Some g) = granted_from 0 (Some g) (omega arith)

-- what is granted before two moments is granted before the first of them
before_twice : (n m : ℕ) (o : Option Granted) → n ≤ m → granted_before n (granted_before m o) ≡ granted_before n o
before_twice n m None le = refl
before_twice n m (Some g) le = by_tests (nat_le (g.at + 1) m) (nat_le (g.at + 1) n) refl refl
  where
    by_tests : (a b : Bool) → nat_le (g.at + 1) m ≡ a → nat_le (g.at + 1) n ≡ b → granted_before n (granted_if a g None) ≡ granted_if b g None
    by_tests true b i j = ap (λ (x : Bool). granted_if x g None) j
    by_tests false false i j = refl
    by_tests false true i j = absurd (grind (arith, nat_tests))

-- what is granted so early is granted before n
before_all : (n : ℕ) (o : Option Granted) → OnGranted (λ t. t + 1 ≤ n) o → granted_before n o ≡ o
before_all n None h = refl
before_all n (Some g) h = by_test (nat_le (g.at + 1) n) refl
  where
    by_test : (b : Bool) → nat_le (g.at + 1) n ≡ b → granted_if b g None ≡ Some g
    by_test true e = refl
    by_test false e = absurd (grind (arith, nat_tests))

-- what is granted before a moment is granted so in the next walk
steps_grant : (n : ℕ) (job : Tree) (input : List ℕ) → NearGrants n (granted_by job input n) (granted_by job input (suc n))
steps_grant zero job input l t m = before_none (granted_by job input 0 l t m) ∙ sym (before_none (granted_by job input 1 l t m))
steps_grant (suc n) job input l t m =
    before_twice (suc n) (suc n) (granted_in (granted_by job input n) job input l t m) (omega arith)
    ∙ (walks_grant n job input (granted_by job input n) (granted_by job input (suc n)) (steps_grant n job input) l t m
    ∙ sym (before_twice (suc n) (suc (suc n)) (granted_in (granted_by job input (suc n)) job input l t m) (omega arith)))

-- all that a task does to an object is done by a moment, where that holds of the log
own_acts_by : (b : ℕ) (l t : Label) (a : Log) → ActsBy b a → Each (λ u. u ≤ b) (own_acts l t a)
own_acts_by b l t nil h = tt
own_acts_by b l t (entry m e rest) h = own_acts_by b l t rest h
own_acts_by b l t (sign k m rest) h = own_acts_by b l t rest h
own_acts_by b l t (entered k m d rest) h = own_acts_by b l t rest h
own_acts_by b l t (act k m a rest) h = by_label (same_label l k) (own_acts_by b l t rest h.1)
  where
    by_label : (e : Bool) → Each (λ u. u ≤ b) (own_acts l t rest) →
        Each (λ u. u ≤ b) (done_if e (record { at = m; task = t; act = a }) (own_acts l t rest))
    by_label true i = (h.0, i)
    by_label false i = i
own_acts_by b l t (task k s u e own rest) h = own_acts_by b l t rest h.1

-- and so is what all tasks do to one of them
acts_by : (b : ℕ) (l : Label) (a : Log) → ActsBy b a → Each (λ u. u ≤ b) (acts_in l a)
acts_by b l nil h = tt
acts_by b l (entry m e rest) h = acts_by b l rest h
acts_by b l (sign k m rest) h = acts_by b l rest h
acts_by b l (entered k m d rest) h = acts_by b l rest h
acts_by b l (act k m a rest) h = acts_by b l rest h.1
acts_by b l (task k s u e own rest) h =
    each_append _ (own_acts l k own) (acts_in l own ++ acts_in l rest) (own_acts_by b l k own h.0)
    (each_append _ (acts_in l own) (acts_in l rest) (acts_by b l own h.0) (acts_by b l rest h.1))

-- so nothing is granted after the moment that follows
granted_by_end : (b n : ℕ) (job : Tree) (r : Result) → ActsBy b r.log → b + 2 ≤ n → (l t : Label) (m : ℕ) →
    granted_before n (grants_of (root_log job r) l t m) ≡ grants_of (root_log job r) l t m
granted_by_end b n job r h le l t m =
    before_all n (grants_of (root_log job r) l t m)
    (found_given (λ u. u + 1 ≤ n) t m (serve_acts unopened (by_moment (acts_in l (root_log job r))))
    (each_served (λ u. u ≤ b) (λ u. u + 1 ≤ n) next unopened (by_moment (acts_in l (root_log job r)))
    (each_by_moment (λ u. u ≤ b) (acts_in l (root_log job r)) (acts_by b l (root_log job r) (h, tt)))))
  where
    next : (u : ℕ) → u ≤ b → (u + 1) + 1 ≤ n
    next u k = omega arith

-- grants that a walk with them grants
abbrev pub IsGranted : Grants → Tree → List ℕ → Type 0
IsGranted grants job input = (l t : Label) (m : ℕ) → grants l t m ≡ granted_in grants job input l t m

-- where a job ends so early, what is granted before a moment is all that is granted
granted_by_then : (b n : ℕ) (job : Tree) (input : List ℕ) → ((grants : Grants) → ActsBy b (root_walk (two_walks grants) job input).log) → b + 2 ≤ n →
    IsGranted (granted_by job input n) job input
granted_by_then b zero job input h le l t m = absurd (omega arith)
granted_by_then b (suc n) job input h le l t m =
    walks_grant n job input (granted_by job input n) (granted_by job input (suc n)) (steps_grant n job input) l t m
    ∙ granted_by_end b (suc n) job (root_walk (two_walks (granted_by job input (suc n))) job input) (h (granted_by job input (suc n))) le l t m

-- two such grants are the same before each moment
same_before : (c : ℕ) (job : Tree) (input : List ℕ) (grants other : Grants) → IsGranted grants job input → IsGranted other job input →
    NearGrants c grants other
same_before zero job input grants other h k l t m = before_none (grants l t m) ∙ sym (before_none (other l t m))
same_before (suc c) job input grants other h k l t m =
    ap (λ (o : Option Granted). granted_before (suc c) o) (h l t m)
    ∙ (walks_grant c job input grants other (same_before c job input grants other h k) l t m
    ∙ sym (ap (λ (o : Option Granted). granted_before (suc c) o) (k l t m)))

-- and what is the same before each moment is the same
same_option : (o p : Option Granted) → ((c : ℕ) → granted_before c o ≡ granted_before c p) → o ≡ p
same_option None None h = refl
same_option None (Some g) h = h (g.at + 1) ∙ before_all (g.at + 1) (Some g) (omega arith)
same_option (Some g) None h = sym (before_all (g.at + 1) (Some g) (omega arith)) ∙ h (g.at + 1)
same_option (Some g) (Some k) h =
    sym (before_all (max g.at k.at + 1) (Some g) (omega arith))
    ∙ (h (max g.at k.at + 1) ∙ before_all (max g.at k.at + 1) (Some k) (omega arith))

-- so there is one such
pub one_is_granted : (job : Tree) (input : List ℕ) (grants other : Grants) → IsGranted grants job input → IsGranted other job input →
    (l t : Label) (m : ℕ) → grants l t m ≡ other l t m
one_is_granted job input grants other h k l t m =
    same_option (grants l t m) (other l t m) (λ c. same_before c job input grants other h k l t m)

-- as functions
pub same_grants : (grants other : Grants) → ((l t : Label) (m : ℕ) → grants l t m ≡ other l t m) → grants ≡ other
same_grants grants other h = fun_ext (λ (l : Label). fun_ext (λ (t : Label). fun_ext (λ (m : ℕ). h l t m)))

-- a million steps end before the last moment, in either clock
in_moments_by : (clock : Clock) (size : ℕ) → size ≤ 1000000 → (reach clock 0 + size * span clock) + 2 ≤ 9671406556917033399746560
in_moments_by by_ticks size few = omega arith
in_moments_by by_rounds size few = omega arith

-- what is granted in the meaning of a job that ends by the last tick is what is granted in its walk
pub meaning_is_granted : (job : Tree) (input : List ℕ) → IsInRange job → length input ≤ MAX_INPUT → IsGranted (meaning_grants job input) job input
unfolding meaning_grants
meaning_is_granted job input in_range small =
    granted_by_then (reach (clock_of job.format) 0 + size_of job.steps * span (clock_of job.format)) last_moment job input
    (λ (grants : Grants). (root_ends_by (two_walks grants) job input in_range small).acts)
    (in_moments_by (clock_of job.format) (size_of job.steps) (at_most_a_million job.format (size_of job.steps) in_range.size))
