-- A job between two checks.
use Rattle.std.specs.Prelude.{◌≡◌, ℕ, List}
use Rattle.job_tree.specs.Tree.{Tree}
use Rattle.job_reader.specs.declared.draft.Draft.{Draft}
use Rattle.job_reader.specs.Refusals.{IsOf, roles_of, Passes}

-- the job of a draft
abbrev pub tree_of : Draft → Tree
tree_of d = record { format = d.format; name = d.name; steps = d.steps }

-- a draft is of this text, its tokens are those of the job, and the first `n` checks find nothing
pub record IsDraftTo (n : ℕ) (text : List ℕ) (d : Draft) : Type 0 where
  pub text_is : d.text.now ≡ text
  pub is_of : IsOf text d.tokens.items (tree_of d)
  pub roles_are : d.roles.items ≡ roles_of (tree_of d)
  pub passes : Passes text n
