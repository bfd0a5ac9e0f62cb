-- The outcome of a text that is read as a job, over an input.
use Rattle.std.specs.Prelude.{◌≡◌, ◌⊎◌, ℕ, Bool, true, false, Option, Some, None, List, [], ◌∷◌, length, slice_get, slice_index_or}
use Rattle.job_tree.specs.Tree.{Tree}
use Rattle.job_tree.specs.declared.format.Format.{Format}
use Rattle.job_tokens.specs.declared.token.Token.{Token}
use Rattle.job_syntax.specs.declared.role.Role.{Role}
use Rattle.job_syntax.specs.Syntax.{fault_at, roles_at, whole_job}
use Rattle.job_reader.specs.declared.fault.JobFault.{JobFault}
use Rattle.job_reader.specs.Refusals.{Spells, HasTokens, IsRefused}
use Rattle.basics.specs.Places.{line_of, column_of}
use Rattle.job_edits.specs.Changes.{changed_text}
use Rattle.job_edits.specs.Faults.{plan_of, changes_by, probe_by, raised_by}
use Rattle.job_edits.specs.Waiting.{waiting_in}
use Rattle.job_edits.specs.Repeated.{repeated_in}
use Rattle.job_edits.specs.WrittenOut.{written_out, written_at}
use Rattle.job_edits.specs.declared.fault.BlockPart.{BlockPart}
use Rattle.job_edits.specs.declared.fault.Fault.{Fault}
use Rattle.job_edits.specs.declared.fault.Variant.{Variant}
use Rattle.job_edits.specs.declared.plan.Plan.{Plan}
use Rattle.job_edits.specs.declared.repeated.RepeatedBlock.{RepeatedBlock}
use Rattle.job_edits.specs.declared.waiting.Waiting.{Waiting}
use Rattle.outcomes.specs.JobOutcomes.{JobOutcome, refused, job_outcome_of, reaches, differs, cuts_more}
use Rattle.outcomes.specs.Table.{Line}

-- the outcome of the job that a text spells, or that the text is refused
abbrev pub IsJobOutcome : List ℕ → List ℕ → ℕ → Option (List ℕ) → JobOutcome → Type 0
IsJobOutcome text input limit name job_outcome =
    ((job : Tree) × Spells text job × (job_outcome ≡ job_outcome_of limit name job input))
    ⊎ ((fault : JobFault) × IsRefused text fault.kind fault.at × (job_outcome ≡ refused fault))

-- whether the job that a text spells raises an exception with this name by the limit; nothing is said of a text that is refused
abbrev pub IsReached : List ℕ → List ℕ → ℕ → List ℕ → Bool → Type 0
IsReached text input limit name reached =
    ((job : Tree) × Spells text job × (reached ≡ reaches limit name job input))
    ⊎ ((fault : JobFault) × IsRefused text fault.kind fault.at × (reached ≡ true))

-- ---- with a fault

-- What becomes of a job text with a fault of a step: the outcome, whether the fault is reached, whether the outcome differs from that
-- without the fault, and whether a task is cut that is not cut without it.
pub record IsTried (text input : List ℕ) (limit : ℕ) (plan : Plan) (step : Waiting) (fault : Fault) (before outcome : JobOutcome)
    (reached is_other is_cut : Bool) : Type 0 where
  pub job_outcome : IsJobOutcome (changed_text text (changes_by plan step fault)) input limit (raised_by fault) outcome
  pub reached_is : IsReached (changed_text text (probe_by plan step fault ∷ [])) input limit plan.reached reached
  pub other_is : is_other ≡ differs limit before outcome
  pub cut_is : is_cut ≡ cuts_more before outcome

-- ---- in one copy or pass

-- the roles of the tokens of a text, or none if they are not in the grammar
abbrev pub roles_if : Option ℕ → List Role → List Role
roles_if None roles = roles
roles_if (Some at) roles = []

abbrev pub token_roles : Format → List ℕ → List Token → List Role
token_roles format text tokens = roles_if (fault_at format (length text) whole_job tokens) (roles_at format whole_job tokens)

abbrev pub text_if : Option RepeatedBlock → List ℕ → List Token → List Role → (index : ℕ) → List ℕ
text_if None text tokens roles index = text
text_if (Some b) text tokens roles index = written_out text tokens roles b index

-- the text in which a copy or pass is written out
abbrev pub text_apart : List ℕ → List Token → List Role → BlockPart → List ℕ
text_apart text tokens roles part = text_if (slice_get (repeated_in tokens) part.block) text tokens roles part.index

abbrev pub number_if : Option RepeatedBlock → (index from : ℕ) → List Waiting → ℕ
number_if None index from steps = 0
number_if (Some b) index from steps = written_at b index from steps

-- the number of a step in that text
abbrev pub number_apart : List Token → BlockPart → (from : ℕ) → ℕ
number_apart tokens part from = number_if (slice_get (repeated_in tokens) part.block) part.index from (waiting_in tokens)

-- the job that a text spells is tried with a fault of the step that has this number; there is one, and otherwise it would be `step`
pub record IsTriedJob (text input : List ℕ) (limit number : ℕ) (step : Waiting) (fault : Fault) (outcome : JobOutcome)
    (reached is_other is_cut : Bool) : Type 0 where
  pub job : Tree
  pub spells : Spells text job
  pub tokens : List Token
  pub tokens_are : HasTokens text tokens None
  pub tried : IsTried text input limit (plan_of tokens) (slice_index_or (waiting_in tokens) number step) fault (job_outcome_of limit None job input) outcome
      reached is_other is_cut

-- the text is refused, so that nothing is known of it
pub record IsNotTried (text : List ℕ) (outcome : JobOutcome) (reached is_other is_cut : Bool) : Type 0 where
  pub fault : JobFault
  pub refused_is : IsRefused text fault.kind fault.at
  pub job_outcome : outcome ≡ refused fault
  pub reached_is : reached ≡ true
  pub other_is : is_other ≡ true
  pub cut_is : is_cut ≡ false

-- ---- a line

-- A fault wherever the step runs is made in the original text, and a fault in one copy or pass in the text in which that is written out.
abbrev pub IsTriedWhere : List ℕ → List ℕ → ℕ → List Token → List Role → JobOutcome → Variant → Option BlockPart → JobOutcome → Bool → Bool → Bool → Type 0
IsTriedWhere text input limit tokens roles first v None outcome reached is_other is_cut =
    IsTried text input limit (plan_of tokens) v.step v.fault first outcome reached is_other is_cut
IsTriedWhere text input limit tokens roles first v (Some part) outcome reached is_other is_cut =
    IsTriedJob (text_apart text tokens roles part) input limit (number_apart tokens part v.step.from) v.step v.fault outcome reached is_other is_cut
    ⊎ IsNotTried (text_apart text tokens roles part) outcome reached is_other is_cut

-- A line says what becomes of the job with a fault. Its place is that of the step in the original text. `first` is the outcome without
-- a fault.
pub record IsLine (text input : List ℕ) (limit : ℕ) (is_named : Bool) (tokens : List Token) (roles : List Role) (first : JobOutcome) (v : Variant) (l : Line) : Type 0 where
  pub variant : l.variant ≡ v
  pub line : l.line ≡ line_of text v.step.from
  pub column : l.column ≡ column_of text v.step.from
  pub named : l.is_named ≡ is_named
  pub tried : IsTriedWhere text input limit tokens roles first v v.part l.job_outcome l.reached l.differs l.cuts
