-- The answer of each case of reading.
use Rattle.std.proofs.Common.{false, ◌≡◌, ℕ, ◌<◌, ◌≤◌, List, [], length, Option, Some, None, inr, refl, sym, ap, subst, ◌∙◌, arith}
use Rattle.std.specs.Prelude.{Result, Ok, Err, IfErr}
use Rattle.job_tree.specs.declared.format.Format.{Format}
use Rattle.job_tree.specs.Tree.{Tree}
use Rattle.job_tree.specs.Formats.{most_steps}
use Rattle.job_tokens.specs.declared.token.Token.{Token}
use Rattle.job_tokens.specs.Shapes.{shapes_of}
use Rattle.job_tree.specs.Names.{size_of}
use Rattle.job_tokens.specs.Lexing.{Gives}
use Rattle.job_syntax.specs.declared.role.Role.{Role}
use Rattle.job_syntax.specs.Pieces.{AreSteps}
use Rattle.job_syntax.specs.Syntax.{fault_at, roles_at, whole_job}
use Rattle.job_syntax.specs.Ranges.{number_fault}
use Rattle.job_syntax.specs.Depth.{depth_fault}
use Rattle.job_syntax.specs.Reading.{job_at}
use Rattle.job_syntax.proofs.Places.{IsFault, fault_at-means}
use Rattle.job_syntax.proofs.Names.{roles_of_job, job_of_text}
use Rattle.job_syntax.proofs.Again.{job_again}
use Rattle.job_reader.specs.Given.{twice_in}
use Rattle.job_reader.specs.Reserved.{reserved_in}
use Rattle.job_reader.specs.declared.fault.JobKind.{JobKind}
use Rattle.job_reader.specs.declared.fault.JobKind.TheVariants as kind
use Rattle.job_reader.specs.declared.fault.JobFault.{JobFault}
use Rattle.job_reader.specs.declared.draft.Draft.{Draft}
use Rattle.job_reader.specs.Refusals.{format_of, HasTokens, AreTokensOf, IsOf, IsOfSomeJob, IsReadTo, roles_of, stray_of, Passes, IsRefused, IsFair, Spells}
use Rattle.job_reader.specs.Drafts.{IsDraftTo, tree_of}
use Rattle.job_reader.proofs.Passing.{within, refused_after, passes_tokens, passes_numbers, passes_syntax, passes_depth, passes_given, passes_uses, passes_reserved, passes_size, passes_all}

-- the answer of `refuse_at`: a refusal of this kind, at the place that a check found
abbrev pub IsRefusalAt : Option ℕ → JobKind → JobFault → Type 0
IsRefusalAt found k fault = (found ≡ Some fault.at) × (fault.kind ≡ k)

-- such a refusal is fair if the check finds only refusals of the text
pub fair_refusal : (text : List ℕ) (k : JobKind) (found : Option ℕ) (fault : JobFault) → ((at : ℕ) → found ≡ Some at → IsRefused text k at)
    → IsRefusalAt found k fault → IsFair text fault
fair_refusal text k found fault refuses is = inr (subst (λ (j : JobKind). IsRefused text j fault.at) (sym is.1) (refuses fault.at is.0))

-- the same for an answer that may be no refusal
pub fair_answer : (text : List ℕ) (k : JobKind) (found : Option ℕ) (r : Result (Unit {0}) JobFault)
    → ((at : ℕ) → found ≡ Some at → IsRefused text k at) → IfErr r (IsRefusalAt found k) → IfErr r (IsFair text)
fair_answer text k found (Ok u) refuses is = tt
fair_answer text k found (Err fault) refuses is = fair_refusal text k found fault refuses is

-- if all tokens can be read, the text passes the check for tokens
pub tokens_read : (text : List ℕ) (tokens : List Token) → Passes text 3 → HasTokens text tokens None → IsReadTo 4 text tokens
tokens_read text tokens before lexed = record { tokens_are = lexed; passes = passes_tokens text tokens before lexed }

-- the first number out of its range is a refusal of a text that passed the check for tokens
pub number_refused : (text : List ℕ) (tokens : List Token) (at : ℕ) → IsReadTo 4 text tokens →
    number_fault (format_of text) tokens ≡ Some at →
    IsRefused text kind.Number at
number_refused text tokens at read found = refused_after text 4 kind.Number at read.passes refl (tokens, read.tokens_are, found)

-- if no number is out of its range, the text passes the check for numbers
pub numbers_read : (text : List ℕ) (tokens : List Token) → IsReadTo 4 text tokens → number_fault (format_of text) tokens ≡ None →
    IsReadTo 5 text tokens
numbers_read text tokens read none =
    record { tokens_are = read.tokens_are; passes = passes_numbers text tokens read.passes read.tokens_are none }

-- the place at which tokens leave the grammar is a refusal of a text that passed the check for numbers
pub syntax_refused : (text : List ℕ) (tokens : List Token) (at : ℕ) → IsReadTo 5 text tokens →
    fault_at (format_of text) (length text) whole_job tokens ≡ Some at → IsRefused text kind.Syntax at
syntax_refused text tokens at read found =
    refused_after text 5 kind.Syntax at read.passes refl (
      tokens,
      read.tokens_are,
      subst (λ (o : Option ℕ). IsFault (format_of text) (length text) whole_job tokens o) found
          (fault_at-means (format_of text) (length text) whole_job tokens),
    )

-- the job of tokens that do not leave the grammar
some_job : (text : List ℕ) (tokens : List Token) (roles : List Role) → fault_at (format_of text) (length text) whole_job tokens ≡ None →
    roles ≡ roles_at (format_of text) whole_job tokens → IsOfSomeJob (format_of text) tokens roles
some_job text tokens roles none are =
    let job = job_of_text (format_of text) (shapes_of tokens)
    (subst (λ (o : Option ℕ). IsFault (format_of text) (length text) whole_job tokens o)
    none (fault_at-means (format_of text) (length text) whole_job tokens)) in
    let steps : AreSteps job.0.format false job.0.steps = subst (λ (format : Format). AreSteps format false job.0.steps)
    (sym job.1) job.2 in (
      job.0,
      (steps, job.3),
      job.1,
      are ∙ ap (λ (format : Format). roles_at format whole_job tokens) (sym job.1) ∙ roles_of_job job.0 tokens steps job.3,
    )

-- the case in which the tokens do not leave the grammar
pub course_read : (text : List ℕ) (tokens : List Token) (roles : List Role) → IsReadTo 5 text tokens →
    fault_at (format_of text) (length text) whole_job tokens ≡ None → roles ≡ roles_at (format_of text) whole_job tokens →
    IsReadTo 6 text tokens × IsOfSomeJob (format_of text) tokens roles
course_read text tokens roles read none are = (
  record { tokens_are = read.tokens_are; passes = passes_syntax text tokens read.passes read.tokens_are none },
  some_job text tokens roles none are,
)

-- the first block that is too deep is a refusal of a text that passed the check for syntax
pub depth_refused : (text : List ℕ) (tokens : List Token) (at : ℕ) → IsReadTo 6 text tokens → depth_fault 0 tokens ≡ Some at →
    IsRefused text kind.Depth at
depth_refused text tokens at read found = refused_after text 6 kind.Depth at read.passes refl (tokens, read.tokens_are, found)

-- if no block is too deep, the text passes the check for depth
pub depth_read : (text : List ℕ) (tokens : List Token) → IsReadTo 6 text tokens → depth_fault 0 tokens ≡ None → IsReadTo 7 text tokens
depth_read text tokens read none =
    record { tokens_are = read.tokens_are; passes = passes_depth text tokens read.passes read.tokens_are none }

-- ---- the tree

some_same : (a b : Tree) → Some a ≡ Some b → a ≡ b
some_same a b e = cc

none_is_some : (o : Option Tree) (job : Tree) → o ≡ Some job → o ≡ None → ⊥
none_is_some o job p q = cc

-- the tree is read from the tokens of a job
job_is : (text : List ℕ) (tokens : List Token) (job : Tree) → IsReadTo 7 text tokens → AreTokensOf tokens job →
    job.format ≡ format_of text → job_at job.format (shapes_of tokens) ≡ Some job
job_is text tokens job read are of =
    ap (job_at job.format) are.1
    ∙ job_again job are.0 (within text tokens job (read.tokens_are, are, of) (λ at. read.passes kind.Depth at (omega arith)))

-- the same with the format of the text
job_is_in : (text : List ℕ) (tokens : List Token) (format : Format) (job : Tree) → IsReadTo 7 text tokens → AreTokensOf tokens job →
    job.format ≡ format → format ≡ format_of text → job_at format (shapes_of tokens) ≡ Some job
job_is_in text tokens format job read are same of =
    ap (λ (f : Format). job_at f (shapes_of tokens)) (sym same) ∙ job_is text tokens job read are (same ∙ of)

-- tokens of a job are read as some job
pub job_is_there : (text : List ℕ) (format : Format) (tokens : List Token) (roles : List Role) → format ≡ format_of text →
    IsReadTo 7 text tokens → IsOfSomeJob format tokens roles → None ≡ job_at format (shapes_of tokens) → ⊥
job_is_there text format tokens roles of read (job, are, same, roles_are) none =
    none_is_some (job_at format (shapes_of tokens)) job (job_is_in text tokens format job read are same of) (sym none)

-- and they are read as that job
pub job_found : (text : List ℕ) (format : Format) (tokens : List Token) (roles : List Role) (job : Tree) → format ≡ format_of text →
    IsReadTo 7 text tokens → IsOfSomeJob format tokens roles → Some job ≡ job_at format (shapes_of tokens) →
    IsOf text tokens job × (roles ≡ roles_of job)
job_found text format tokens roles job of read (other, are, same_format, roles_are) found =
    let same : other ≡ job = some_same other job (sym (job_is_in text tokens format other read are same_format of) ∙ sym found) in
    subst (λ (j : Tree). IsOf text tokens j × (roles ≡ roles_of j)) same ((read.tokens_are, are, same_format ∙ of), roles_are)

gives_none : {X : Type 0} (view : X → Tree) (o : Option X) (read : Option Tree) → o ≡ None → Gives view o read → read ≡ None
gives_none view None read e gives = gives
gives_none view (Some x) read e gives = absurd cc

gives_some : {X : Type 0} (view : X → Tree) (x : X) (o : Option X) (read : Option Tree) → o ≡ Some x → Gives view o read →
    read ≡ Some (view x)
gives_some {X = X} view x None read e gives = absurd cc
gives_some {X = X} view x (Some y) read e gives = subst (λ (o : Option X). Gives view o read) e gives

-- a job was read from the tokens that were borrowed
pub never_none : {X : Type 0} (view : X → Tree) (text : List ℕ) (format : Format) (tokens lent : List Token) (roles : List Role)
    (o : Option X) → format ≡ format_of text →
    IsReadTo 7 text tokens → IsOfSomeJob format tokens roles → lent ≡ tokens → Gives view o (job_at format (shapes_of lent)) → o ≡ None → ⊥
never_none view text format tokens lent roles o of read of_some same gives e =
    job_is_there text format tokens roles of read of_some (sym (ap (λ (ts : List Token). job_at format (shapes_of ts)) (sym same)
    ∙ gives_none view o (job_at format (shapes_of lent)) e gives))

-- the draft has what was read from the tokens
pub drafted : {X : Type 0} (view : X → Tree) (x : X) (text : List ℕ) (d : Draft) (lent : List Token) (o : Option X) →
    d.format ≡ format_of text → IsReadTo 7 text d.tokens.items → IsOfSomeJob d.format d.tokens.items d.roles.items →
    lent ≡ d.tokens.items → Gives view o (job_at d.format (shapes_of lent)) → o ≡ Some x
    → d.text.now ≡ text → view x ≡ tree_of d → IsDraftTo 7 text d
drafted view x text d lent o of read of_some same gives e text_is is =
    let found : Some (tree_of d) ≡ job_at d.format (shapes_of d.tokens.items) =
    sym (ap (λ (ts : List Token). job_at d.format (shapes_of ts)) (sym same)
    ∙ gives_some view x o (job_at d.format (shapes_of lent)) e gives ∙ ap some_of is) in
    let job = job_found text d.format d.tokens.items d.roles.items (tree_of d) of read of_some found in
    record { text_is = text_is; is_of = job.0; roles_are = job.1; passes = read.passes }
  where
    some_of : Tree → Option Tree
    some_of j = Some j

-- ---- the last checks

-- what a check finds along the tokens and their roles
by_roles : (d : Draft) (pass : List Token → List Role → Option ℕ) (found : Option ℕ) → d.roles.items ≡ roles_of (tree_of d) →
    pass d.tokens.items d.roles.items ≡ found → pass d.tokens.items (roles_of (tree_of d)) ≡ found
by_roles d pass found are e = ap (pass d.tokens.items) (sym are) ∙ e

-- what a check found along the slices that it borrowed
pub found_by : (pass : List Token → List Role → Option ℕ) (ts us : List Token) (rs qs : List Role) (found answer : Option ℕ) → us ≡ ts →
    qs ≡ rs → found ≡ pass us qs → found ≡ answer → pass ts rs ≡ answer
found_by pass ts us rs qs found answer same same' is e = (λ i. pass (sym same i) (sym same' i)) ∙ sym is ∙ e

next_draft : (n m : ℕ) (text : List ℕ) (d : Draft) → IsDraftTo n text d → Passes text m → IsDraftTo m text d
next_draft n m text d h passes = record { text_is = h.text_is; is_of = h.is_of; roles_are = h.roles_are; passes = passes }

-- the first name given twice is a refusal of the text of a draft that passed the check for depth
pub given_refused : (text : List ℕ) (d : Draft) (at : ℕ) → IsDraftTo 7 text d → twice_in [] d.tokens.items d.roles.items ≡ Some at →
    IsRefused text kind.Twice at
given_refused text d at h e = refused_after text 7 kind.Twice at h.passes refl
    (d.tokens.items, tree_of d, h.is_of, by_roles d (twice_in []) (Some at) h.roles_are e)

-- if no name is given twice, the draft passes the check for given names
pub given_passed : (text : List ℕ) (d : Draft) → IsDraftTo 7 text d → twice_in [] d.tokens.items d.roles.items ≡ None → IsDraftTo 8 text d
given_passed text d h e = next_draft 7 8 text d h (passes_given text d.tokens.items (tree_of d) h.passes h.is_of
    (by_roles d (twice_in []) None h.roles_are e))

-- the first use of a name that nothing of its kind around it has is a refusal of the text of such a draft
pub stray_refused : (text : List ℕ) (d : Draft) (at : ℕ) → IsDraftTo 8 text d →
    stray_of (tree_of d) d.tokens.items d.roles.items ≡ Some at → IsRefused text kind.NotEnclosing at
stray_refused text d at h e = refused_after text 8 kind.NotEnclosing at h.passes refl
    (d.tokens.items, tree_of d, h.is_of, by_roles d (stray_of (tree_of d)) (Some at) h.roles_are e)

-- if no use of a name is stray, the draft passes the check for uses
pub stray_passed : (text : List ℕ) (d : Draft) → IsDraftTo 8 text d → stray_of (tree_of d) d.tokens.items d.roles.items ≡ None →
    IsDraftTo 9 text d
stray_passed text d h e = next_draft 8 9 text d h (passes_uses text d.tokens.items (tree_of d) h.passes h.is_of
    (by_roles d (stray_of (tree_of d)) None h.roles_are e))

-- the first reserved name is a refusal of the text of such a draft
pub reserved_refused : (text : List ℕ) (d : Draft) (at : ℕ) → IsDraftTo 9 text d → reserved_in d.tokens.items d.roles.items ≡ Some at →
    IsRefused text kind.Reserved at
reserved_refused text d at h e =
    refused_after text 9 kind.Reserved at h.passes refl (d.tokens.items, tree_of d, h.is_of, by_roles d reserved_in (Some at) h.roles_are e)

-- if no name is reserved, the draft passes the check for reserved names
pub reserved_passed : (text : List ℕ) (d : Draft) → IsDraftTo 9 text d → reserved_in d.tokens.items d.roles.items ≡ None →
    IsDraftTo 10 text d
reserved_passed text d h e = next_draft 9 10 text d h (passes_reserved text d.tokens.items (tree_of d) h.passes h.is_of
    (by_roles d reserved_in None h.roles_are e))

-- more step instances than the maximum are a refusal of the text of such a draft, at place 0
pub size_refused : (text : List ℕ) (d : Draft) → IsDraftTo 10 text d → most_steps d.format < size_of d.steps →
    IsRefused text kind.TooLarge 0
size_refused text d h lt = refused_after text 10 kind.TooLarge 0 h.passes refl (d.tokens.items, tree_of d, h.is_of, lt, refl)

-- if there are no more than the maximum, the draft passes the last check
pub size_passed : (text : List ℕ) (d : Draft) → IsDraftTo 10 text d → size_of d.steps ≤ most_steps d.format → IsDraftTo 11 text d
size_passed text d h le = next_draft 10 11 text d h (passes_size text d.tokens.items (tree_of d) h.passes h.is_of le)

-- the text spells a job that passed all checks
pub is_spelled : (text : List ℕ) (d : Draft) → IsDraftTo 11 text d → Spells text (tree_of d)
is_spelled text d h = (d.tokens.items, h.is_of, passes_all text h.passes)
