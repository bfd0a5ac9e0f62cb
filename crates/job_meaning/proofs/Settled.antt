-- Following the tables of the meaning is the meaning, and so is following any settled tables.
use Rattle.std.proofs.Common.{◌≡◌, ℕ, List, ap, sym, ◌∙◌}
use Rattle.job_tree.specs.Tree.{Tree}
use Rattle.job_tree.specs.Names.{GivesNamesOnce}
use Rattle.exceptions.specs.Exceptions.{Label}
use Rattle.job_meaning.specs.Log.{Result, Table, table_of}
use Rattle.job_meaning.specs.Sharing.{Grants, grants_of}
use Rattle.job_meaning.specs.Walk.{two_walks}
use Rattle.job_meaning.specs.Meaning.{root_walk, root_log, meaning_grants, meaning}
use Rattle.job_meaning.specs.Follow.{follow, IsSettled}
use Rattle.job_meaning.specs.Laws.{FollowingIsMeaning, TableIsSettled, FollowingSettledIsMeaning, OneTableIsSettled}
use Rattle.job_meaning.proofs.Following.{following_is_walking, settled_is_walking}
use Rattle.job_meaning.proofs.Granting.{IsGranted, meaning_is_granted, same_grants, one_is_granted}

-- where names are given once, following the table of the meaning is the meaning
pub following_is_meaning : FollowingIsMeaning
unfolding meaning
following_is_meaning job input once = following_is_walking (meaning_grants job input) job input once

-- so these tables are settled, where the job ends by the last tick
pub table_is_settled : TableIsSettled
unfolding meaning
table_is_settled job input once in_range small =
    record {
      froms = λ l. ap (λ (r : Result). table_of r.log l) (sym (following_is_meaning job input once));
      granted =
          λ l t m. meaning_is_granted job input in_range small l t m
          ∙ ap (λ (r : Result). grants_of (root_log job r) l t m) (sym (following_is_meaning job input once));
    }

-- what settled tables grant is granted in the walk
pub settled_is_granted : (table : Table) (grants : Grants) (job : Tree) (input : List ℕ) → GivesNamesOnce job → IsSettled table grants job input →
    IsGranted grants job input
settled_is_granted table grants job input once h l t m =
    h.granted l t m ∙ ap (λ (r : Result). grants_of (root_log job r) l t m) (settled_is_walking table grants job input once h.froms)

-- and following any settled tables is the meaning
pub settled_is_meaning : FollowingSettledIsMeaning
unfolding meaning
settled_is_meaning table grants job input once in_range small h =
    settled_is_walking table grants job input once h.froms
    ∙ ap (λ (g : Grants). root_walk (two_walks g) job input)
    (same_grants grants (meaning_grants job input)
    (one_is_granted job input grants (meaning_grants job input) (settled_is_granted table grants job input once h)
    (meaning_is_granted job input in_range small)))

-- so there is one settled pair of tables
pub one_table_is_settled : OneTableIsSettled
one_table_is_settled table second grants second_grants job input once h k = (froms, same)
  where
    same : (l t : Label) (m : ℕ) → grants l t m ≡ second_grants l t m
    same =
        one_is_granted job input grants second_grants (settled_is_granted table grants job input once h)
        (settled_is_granted second second_grants job input once k)

    walks : follow table grants job input ≡ follow second second_grants job input
    walks =
        settled_is_walking table grants job input once h.froms
        ∙ (ap (λ (g : Grants). root_walk (two_walks g) job input) (same_grants grants second_grants same)
        ∙ sym (settled_is_walking second second_grants job input once k.froms))

    froms : (l : Label) → table l ≡ second l
    froms l = h.froms l ∙ (ap (λ (r : Result). table_of r.log l) walks ∙ sym (k.froms l))
