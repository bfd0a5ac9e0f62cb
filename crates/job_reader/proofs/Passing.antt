-- The checks one after the other, and that each finds one place only.
use Rattle.std.proofs.Common.{Bool, true, false, ◌≡◌, ℕ, ◌+◌, ◌<◌, ◌≤◌, List, [], length, take, drop, Option, Some, None, inl, inr, refl, sym, ap, subst, ◌∙◌, arith}
use Rattle.std.specs.Prelude.{Result, Ok, Err, MatchResult, ◌==◌, if◌then◌else◌}
use Rattle.std.specs.List.{prefix_len}
use Rattle.std.proofs.lemmas.Bool.{cases_lt}
use Rattle.std.proofs.lemmas.Slice.Eq.{bytes_eq-Decides}
use Rattle.std.specs.Str.{bytes_eq}
use Rattle.job_tree.specs.declared.format.Format.{Format}
use Rattle.job_tree.specs.declared.format.Format.TheVariants.{One, Two, Three}
use Rattle.job_tree.specs.Tree.{Tree}
use Rattle.job_tree.specs.Formats.{most_steps}
use Rattle.job_tokens.specs.declared.token.Token.{Token}
use Rattle.job_tokens.specs.Shapes.{shapes_of}
use Rattle.job_tokens.specs.Lexing.{has_comments}
use Rattle.job_tokens.proofs.LeftToRight.{Lexes-unique}
use Rattle.job_tree.specs.Names.{size_of}
use Rattle.job_syntax.specs.declared.role.Role.{Role}
use Rattle.job_syntax.specs.Pieces.{shapes_in, job_pieces}
use Rattle.job_syntax.specs.Syntax.{fault_at, roles_at, whole_job}
use Rattle.job_syntax.specs.Ranges.{number_fault}
use Rattle.job_syntax.specs.Depth.{AreWithin, depth_fault}
use Rattle.job_syntax.specs.Reading.{job_at}
use Rattle.job_syntax.proofs.Places.{fault_at-leaves}
use Rattle.job_syntax.proofs.Names.{roles_of_job}
use Rattle.job_syntax.proofs.Again.{job_again}
use Rattle.job_syntax.proofs.Deep.{within_depth}
use Rattle.job_reader.specs.Given.{twice_in}
use Rattle.job_reader.specs.Reserved.{reserved_in}
use Rattle.job_reader.specs.declared.fault.JobKind.{JobKind}
use Rattle.job_reader.specs.declared.fault.JobKind.TheVariants as kind
use Rattle.job_reader.specs.declared.fault.JobFault.{JobFault}
use Rattle.job_reader.specs.Kinds.{number_of}
use Rattle.job_reader.specs.Refusals.{most_bytes, first_line, format_of, IsHeadless, is_text_byte, may_have_comments, HasTokens, IsOf, roles_of, stray_of, Finds, Passes, IsRefused, IsFair, AnswersUnlessMemory, Spells}

next_pass : (text : List ℕ) (n : ℕ) → Passes text n → ((k : JobKind) (at : ℕ) → number_of k ≡ n + 1 → Finds k text at → ⊥) →
    Passes text (n + 1)
next_pass text n before here k at le finds =
    elim (cases_lt (number_of k) (n + 1)) [ inl lt ↦ before k at (omega arith) finds | inr ge ↦ here k at (omega arith) finds ]

-- what a check finds is a refusal of the text if all checks before it find nothing
pub refused_after : (text : List ℕ) (n : ℕ) (k : JobKind) (at : ℕ) → Passes text n → number_of k ≡ n + 1 → Finds k text at →
    IsRefused text k at
refused_after text n k at before e finds = (finds, λ other place lt. before other place (omega arith))

-- ---- the bytes

no_pass : (text : List ℕ) → Passes text 0
no_pass text kind.TooLong at le finds = absurd (omega arith)
no_pass text _ at le finds = absurd (omega arith)

here_long : (text : List ℕ) → length text ≤ most_bytes → (k : JobKind) (at : ℕ) → number_of k ≡ 1 → Finds k text at → ⊥
here_long text short kind.TooLong at e finds = omega (arith, finds.0)
here_long text short _ at e finds = absurd (omega arith)

here_ascii : (text : List ℕ) → length text ≤ prefix_len (is_text_byte (format_of text)) text → (k : JobKind) (at : ℕ) → number_of k ≡ 2 → Finds k text at → ⊥
here_ascii text all kind.NotAscii at e finds = omega (arith, finds.0, finds.1)
here_ascii text all _ at e finds = absurd (omega arith)

-- a text that begins with the first line of a format has that format
pub format_is : (text : List ℕ) (format : Format) → take 11 text ≡ first_line format → format ≡ format_of text
format_is text One e = rw e refl
format_is text Two e = rw e refl
format_is text Three e = rw e refl

-- a text that begins with no first line has format 1
pub format_headless : (text : List ℕ) → IsHeadless text → One ≡ format_of text
format_headless text none = rw (test Three, test Two) refl
  where
    by_test : (format : Format) (b : Bool) → bytes_eq (take 11 text) (first_line format) ≡ b → b ≡ false
    by_test format true e = absurd (none format ((bytes_eq-Decides (take 11 text) (first_line format)).0 e))
    by_test format false e = refl

    test : (format : Format) → bytes_eq (take 11 text) (first_line format) ≡ false
    test format = by_test format (bytes_eq (take 11 text) (first_line format)) refl

not_headless : (text : List ℕ) (format : Format) → take 11 text ≡ first_line format → IsHeadless text → ⊥
not_headless text format is none = none format is

here_version : (text : List ℕ) (format : Format) → take 11 text ≡ first_line format → (k : JobKind) (at : ℕ) → number_of k ≡ 3 →
    Finds k text at → ⊥
here_version text format is kind.Version at e finds = not_headless text format is finds.0
here_version text format is _ at e finds = absurd (omega arith)

-- a text of at most the maximum number of bytes passes the first check
pub passes_one : (text : List ℕ) → length text ≤ most_bytes → Passes text 1
passes_one text short = next_pass text 0 (no_pass text) (here_long text short)

-- a text that passed the first check and has only bytes that it may have passes the second
pub passes_two : (text : List ℕ) → Passes text 1 → length text ≤ prefix_len (is_text_byte (format_of text)) text → Passes text 2
passes_two text before all = next_pass text 1 before (here_ascii text all)

-- a text that passed these and begins with a first line passes the third
pub passes_three : (text : List ℕ) (format : Format) → Passes text 2 → take 11 text ≡ first_line format → Passes text 3
passes_three text format before is = next_pass text 2 before (here_version text format is)

-- ---- the tokens

-- a format says whether its texts have comments
pub comments_by : (text : List ℕ) (format : Format) → format ≡ format_of text → has_comments format ≡ may_have_comments text
unfolding may_have_comments
comments_by text format of = ap has_comments of

same_tokens : (text : List ℕ) (a b : List Token) (f g : Option ℕ) → HasTokens text a f → HasTokens text b g → a ≡ b
same_tokens text a b f g p q = (Lexes-unique (may_have_comments text) (length text) (drop 11 text) a b f g p q).0

same_end : (text : List ℕ) (a b : List Token) (f g : Option ℕ) → HasTokens text a f → HasTokens text b g → f ≡ g
same_end text a b f g p q = (Lexes-unique (may_have_comments text) (length text) (drop 11 text) a b f g p q).1

none_is_some : (o : Option ℕ) (at : ℕ) → o ≡ None → o ≡ Some at → ⊥
none_is_some o at p q = cc

some_is : (o : Option ℕ) (a b : ℕ) → o ≡ Some a → o ≡ Some b → a ≡ b
some_is o a b p q = cc

some_same : (a b : ℕ) → Some a ≡ Some b → a ≡ b
some_same a b e = cc

here_token : (text : List ℕ) (tokens : List Token) → HasTokens text tokens None → (k : JobKind) (at : ℕ) → number_of k ≡ 4 →
    Finds k text at → ⊥
here_token text tokens lexed kind.Token at e finds = none_is_some None at refl (same_end text tokens finds.0 None (Some at) lexed finds.1)
here_token text tokens lexed _ at e finds = absurd (omega arith)

here_number : (text : List ℕ) (tokens : List Token) → HasTokens text tokens None → number_fault (format_of text) tokens ≡ None →
    (k : JobKind) (at : ℕ) → number_of k ≡ 5 → Finds k text at → ⊥
here_number text tokens lexed none kind.Number at e finds =
    none_is_some (number_fault (format_of text) finds.0) at (subst (λ (ts : List Token). number_fault (format_of text) ts ≡ None)
    (same_tokens text tokens finds.0 None None lexed finds.1) none) finds.2
here_number text tokens lexed none _ at e finds = absurd (omega arith)

here_syntax : (text : List ℕ) (tokens : List Token) → HasTokens text tokens None →
    fault_at (format_of text) (length text) whole_job tokens ≡ None →
    (k : JobKind) (at : ℕ) → number_of k ≡ 6 → Finds k text at → ⊥
here_syntax text tokens lexed none kind.Syntax at e finds =
    none_is_some (fault_at (format_of text) (length text) whole_job finds.0) at
    (subst (λ (ts : List Token). fault_at (format_of text) (length text) whole_job ts ≡ None)
    (same_tokens text tokens finds.0 None None lexed finds.1) none)
    (fault_at-leaves (format_of text) (length text) whole_job finds.0 at finds.2)
here_syntax text tokens lexed none _ at e finds = absurd (omega arith)

-- ---- the job

-- if no place is found, the result is `None`
pub none_of : (o : Option ℕ) → ((x : ℕ) → o ≡ Some x → ⊥) → o ≡ None
none_of None never = refl
none_of (Some x) never = absurd (never x refl)

-- a number that is not above the maximum number of step instances is at most that maximum
pub small_enough : (most n : ℕ) → (most < n → ⊥) → n ≤ most
small_enough most n never = elim (cases_lt most n) [ inl lt ↦ absurd (never lt) | inr le ↦ le ]

some_tree : (a b : Tree) → Some a ≡ Some b → a ≡ b
some_tree a b e = cc

-- the roles of tokens do not depend on the job that has them
same_roles : (text : List ℕ) (ts us : List Token) (a b : Tree) → IsOf text ts a → IsOf text us b → roles_of a ≡ roles_of b
same_roles text ts us a b (p, (are_a, same_a), of_a) (q, (are_b, same_b), of_b) =
    sym (roles_of_job a ts are_a same_a) ∙ ap (roles_at a.format whole_job) (same_tokens text ts us None None p q)
    ∙ ap (λ (format : Format). roles_at format whole_job us) (of_a ∙ sym of_b) ∙ roles_of_job b us are_b same_b

-- what a check finds along tokens and their roles
same_found : (text : List ℕ) (ts us : List Token) (a b : Tree) (pass : List Token → List Role → Option ℕ) → IsOf text ts a →
    IsOf text us b → pass ts (roles_of a) ≡ pass us (roles_of b)
same_found text ts us a b pass p q =
    ap (λ (xs : List Token). pass xs (roles_of a)) (same_tokens text ts us None None p.0 q.0) ∙ ap (pass us) (same_roles text ts us a b p q)

-- the depth check finds nothing
abbrev pub IsShallow : List ℕ → Type 0
IsShallow text = (at : ℕ) → Finds kind.Depth text at → ⊥

-- in a text that is not too deep, at most 31 blocks are nested inside the job's own
pub within : (text : List ℕ) (ts : List Token) (job : Tree) → IsOf text ts job → IsShallow text → AreWithin 31 job.steps
within text ts job (lexed, (are, same), of) never = within_depth job ts same (none_of (depth_fault 0 ts) (λ at e. never at (ts, lexed, e)))

-- a text that is not too deep is the text of only one job
pub same_job : (text : List ℕ) (ts us : List Token) (a b : Tree) → IsOf text ts a → IsOf text us b → IsShallow text → a ≡ b
same_job text ts us a b p q never =
    let shapes : shapes_in (job_pieces a) ≡ shapes_in (job_pieces b) =
    sym p.1.1 ∙ ap shapes_of (same_tokens text ts us None None p.0 q.0) ∙ q.1.1 in
    some_tree a b
    (sym (job_again a p.1.0 (within text ts a p never)) ∙ ap (job_at a.format) shapes
    ∙ ap (λ (format : Format). job_at format (shapes_in (job_pieces b))) (p.2 ∙ sym q.2)
    ∙ job_again b q.1.0 (within text us b q never))

same_stray : (text : List ℕ) (ts us : List Token) (a b : Tree) → IsOf text ts a → IsOf text us b → IsShallow text →
    stray_of a ts (roles_of a) ≡ stray_of b us (roles_of b)
same_stray text ts us a b p q never =
    same_found text ts us a b (stray_of a) p q ∙ ap (λ (j : Tree). stray_of j us (roles_of b)) (same_job text ts us a b p q never)

here_depth : (text : List ℕ) (tokens : List Token) → HasTokens text tokens None → depth_fault 0 tokens ≡ None → (k : JobKind) (at : ℕ) →
    number_of k ≡ 7 → Finds k text at → ⊥
here_depth text tokens lexed none kind.Depth at e finds =
    none_is_some (depth_fault 0 finds.0) at (subst (λ (ts : List Token). depth_fault 0 ts ≡ None)
    (same_tokens text tokens finds.0 None None lexed finds.1) none) finds.2
here_depth text tokens lexed none _ at e finds = absurd (omega arith)

here_twice : (text : List ℕ) (tokens : List Token) (job : Tree) → IsOf text tokens job → twice_in [] tokens (roles_of job) ≡ None →
    (k : JobKind) (at : ℕ) → number_of k ≡ 8 → Finds k text at → ⊥
here_twice text tokens job is_of none kind.Twice at e finds =
    none_is_some (twice_in [] tokens (roles_of job)) at none (same_found text tokens finds.0 job finds.1 (twice_in []) is_of finds.2
    ∙ finds.3)
here_twice text tokens job is_of none _ at e finds = absurd (omega arith)

here_enclosing : (text : List ℕ) (tokens : List Token) (job : Tree) → IsOf text tokens job → IsShallow text →
    stray_of job tokens (roles_of job) ≡ None → (k : JobKind) (at : ℕ) → number_of k ≡ 9 → Finds k text at → ⊥
here_enclosing text tokens job is_of never none kind.NotEnclosing at e finds =
    none_is_some (stray_of job tokens (roles_of job)) at none (same_stray text tokens finds.0 job finds.1 is_of finds.2 never ∙ finds.3)
here_enclosing text tokens job is_of never none _ at e finds = absurd (omega arith)

here_reserved : (text : List ℕ) (tokens : List Token) (job : Tree) → IsOf text tokens job → reserved_in tokens (roles_of job) ≡ None →
    (k : JobKind) (at : ℕ) → number_of k ≡ 10 → Finds k text at → ⊥
here_reserved text tokens job is_of none kind.Reserved at e finds =
    none_is_some (reserved_in tokens (roles_of job)) at none (same_found text tokens finds.0 job finds.1 reserved_in is_of finds.2
    ∙ finds.3)
here_reserved text tokens job is_of none _ at e finds = absurd (omega arith)

here_large : (text : List ℕ) (tokens : List Token) (job : Tree) → IsOf text tokens job → IsShallow text →
    size_of job.steps ≤ most_steps job.format → (k : JobKind) (at : ℕ) → number_of k ≡ 11 → Finds k text at → ⊥
here_large text tokens job is_of never small kind.TooLarge at e finds =
    let same : size_of job.steps ≡ size_of finds.1.steps =
    ap (λ (j : Tree). size_of j.steps) (same_job text tokens finds.0 job finds.1 is_of finds.2 never) in
    let most : most_steps job.format ≡ most_steps finds.1.format =
    ap (λ (j : Tree). most_steps j.format) (same_job text tokens finds.0 job finds.1 is_of finds.2 never) in
    let large : most_steps finds.1.format < size_of finds.1.steps = finds.3 in
    omega (arith, same, most, large, small)
here_large text tokens job is_of never small _ at e finds = absurd (omega arith)

-- a text that passed three checks, and of which all tokens can be read, also passes the check for tokens
pub passes_tokens : (text : List ℕ) (tokens : List Token) → Passes text 3 → HasTokens text tokens None → Passes text 4
passes_tokens text tokens before lexed = next_pass text 3 before (here_token text tokens lexed)

-- if no number is out of its range, it also passes the check for numbers
pub passes_numbers : (text : List ℕ) (tokens : List Token) → Passes text 4 → HasTokens text tokens None →
    number_fault (format_of text) tokens ≡ None →
    Passes text 5
passes_numbers text tokens before lexed none = next_pass text 4 before (here_number text tokens lexed none)

-- if its tokens do not leave the grammar, it also passes the check for syntax
pub passes_syntax : (text : List ℕ) (tokens : List Token) → Passes text 5 → HasTokens text tokens None →
    fault_at (format_of text) (length text) whole_job tokens ≡ None → Passes text 6
passes_syntax text tokens before lexed none = next_pass text 5 before (here_syntax text tokens lexed none)

-- if no block is too deep, it also passes the check for depth
pub passes_depth : (text : List ℕ) (tokens : List Token) → Passes text 6 → HasTokens text tokens None → depth_fault 0 tokens ≡ None →
    Passes text 7
passes_depth text tokens before lexed none = next_pass text 6 before (here_depth text tokens lexed none)

-- if no name is given twice, it also passes the check for given names
pub passes_given : (text : List ℕ) (tokens : List Token) (job : Tree) → Passes text 7 → IsOf text tokens job →
    twice_in [] tokens (roles_of job) ≡ None → Passes text 8
passes_given text tokens job before is_of none = next_pass text 7 before (here_twice text tokens job is_of none)

-- if no use of a name is stray, it also passes the check for uses
pub passes_uses : (text : List ℕ) (tokens : List Token) (job : Tree) → Passes text 8 → IsOf text tokens job →
    stray_of job tokens (roles_of job) ≡ None → Passes text 9
passes_uses text tokens job before is_of none =
    next_pass text 8 before (here_enclosing text tokens job is_of (λ at. before kind.Depth at (omega arith)) none)

-- if no name is reserved, it also passes the check for reserved names
pub passes_reserved : (text : List ℕ) (tokens : List Token) (job : Tree) → Passes text 9 → IsOf text tokens job →
    reserved_in tokens (roles_of job) ≡ None → Passes text 10
passes_reserved text tokens job before is_of none = next_pass text 9 before (here_reserved text tokens job is_of none)

-- if the job has at most the maximum number of step instances, it also passes the last check
pub passes_size : (text : List ℕ) (tokens : List Token) (job : Tree) → Passes text 10 → IsOf text tokens job →
    size_of job.steps ≤ most_steps job.format → Passes text 11
passes_size text tokens job before is_of small =
    next_pass text 10 before (here_large text tokens job is_of (λ at. before kind.Depth at (omega arith)) small)

never_memory : (text : List ℕ) (k : JobKind) (at : ℕ) → 12 ≤ number_of k → Finds k text at → ⊥
never_memory text kind.NoMemory at le finds = finds
never_memory text _ at le finds = absurd (omega arith)

-- all checks find nothing
pub passes_all : (text : List ℕ) → Passes text 11 → (k : JobKind) (at : ℕ) → Finds k text at → ⊥
passes_all text before k at finds =
    elim (cases_lt (number_of k) 12) [ inl lt ↦ before k at (omega arith) finds | inr ge ↦ never_memory text k at (omega arith) finds ]

-- ---- one place, one job

one_place : (text : List ℕ) (k : JobKind) (a b : ℕ) → ((other : JobKind) (place : ℕ) → number_of other < number_of k →
    Finds other text place → ⊥) → Finds k text a → Finds k text b → a ≡ b
one_place text kind.TooLong a b below p q = p.1 ∙ sym q.1
one_place text kind.NotAscii a b below p q = sym p.0 ∙ q.0
one_place text kind.Version a b below p q = p.1 ∙ sym q.1
one_place text kind.Token a b below (ts, p) (us, q) = some_same a b (same_end text ts us (Some a) (Some b) p q)
one_place text kind.Number a b below (ts, p, at_a) (us, q, at_b) =
    some_is (number_fault (format_of text) us) a b (subst (λ (xs : List Token). number_fault (format_of text) xs ≡ Some a)
    (same_tokens text ts us None None p q)
    at_a) at_b
one_place text kind.Syntax a b below (ts, p, at_a) (us, q, at_b) =
    some_is (fault_at (format_of text) (length text) whole_job us) a b
    (subst (λ (xs : List Token). fault_at (format_of text) (length text) whole_job xs ≡ Some a)
    (same_tokens text ts us None None p q) (fault_at-leaves (format_of text) (length text) whole_job ts a at_a))
    (fault_at-leaves (format_of text) (length text) whole_job us b at_b)
one_place text kind.Depth a b below (ts, p, at_a) (us, q, at_b) =
    some_is (depth_fault 0 us) a b (subst (λ (xs : List Token). depth_fault 0 xs ≡ Some a) (same_tokens text ts us None None p q) at_a) at_b
one_place text kind.Twice a b below (ts, j, p, at_a) (us, k, q, at_b) =
    some_is (twice_in [] us (roles_of k)) a b (sym (same_found text ts us j k (twice_in []) p q) ∙ at_a) at_b
one_place text kind.NotEnclosing a b below (ts, j, p, at_a) (us, k, q, at_b) =
    some_is (stray_of k us (roles_of k)) a b (sym (same_stray text ts us j k p q (λ at. below kind.Depth at (omega arith))) ∙ at_a) at_b
one_place text kind.Reserved a b below (ts, j, p, at_a) (us, k, q, at_b) =
    some_is (reserved_in us (roles_of k)) a b (sym (same_found text ts us j k reserved_in p q) ∙ at_a) at_b
one_place text kind.TooLarge a b below (ts, j, p, large_a, at_a) (us, k, q, large_b, at_b) = at_a ∙ sym at_b
one_place text kind.NoMemory a b below p q = absurd p

abbrev kind_at : ℕ → JobKind
kind_at n =
    if n == 1 then kind.TooLong else (if n == 2 then kind.NotAscii else
    (if n == 3 then kind.Version else (if n == 4 then kind.Token else (if n == 5 then kind.Number else (if n == 6 then kind.Syntax
    else (if n == 7 then kind.Depth else (if n == 8 then kind.Twice else
    (if n == 9 then kind.NotEnclosing else (if n == 10 then kind.Reserved else
    (if n == 11 then kind.TooLarge else kind.NoMemory))))))))))

kind_at-number_of : (k : JobKind) → kind_at (number_of k) ≡ k
kind_at-number_of kind.TooLong = refl
kind_at-number_of _ = refl

same_kind : (j k : JobKind) → number_of j ≡ number_of k → j ≡ k
same_kind j k e = sym (kind_at-number_of j) ∙ ap kind_at e ∙ kind_at-number_of k

-- a text is refused for one reason, at one place
pub one_refusal : (text : List ℕ) (j k : JobKind) (a b : ℕ) → IsRefused text j a → IsRefused text k b → (j ≡ k) × (a ≡ b)
one_refusal text j k a b p q =
    elim (cases_lt (number_of j) (number_of k)) [
      | inl lt ↦ absurd (q.1 j a lt p.0)
      | inr ge ↦ elim (cases_lt (number_of k) (number_of j)) [
        | inl lt ↦ absurd (p.1 k b lt q.0)
        | inr le ↦ (let same : j ≡ k = same_kind j k (omega arith) in
            (same, one_place text k a b q.1 (subst (λ (x : JobKind). Finds x text a) same p.0) q.0))
      ]
    ]

-- no text spells two jobs
pub one_spelled : (text : List ℕ) (a b : Tree) → Spells text a → Spells text b → a ≡ b
one_spelled text a b (ts, p, none_a) (us, q, none_b) = same_job text ts us a b p q (none_a kind.Depth)

abbrev ok_job : Tree → Result Tree JobFault
ok_job job = Ok job

abbrev err_job : JobFault → Result Tree JobFault
err_job fault = Err fault

-- ---- the answers of a reading that is exact both ways

-- for a text that spells a job, an exact reading answers that job, or that memory runs out
pub only_spelled : (text : List ℕ) (result : Result Tree JobFault) (job : Tree) → MatchResult result (Spells text) (IsFair text) →
    Spells text job → AnswersUnlessMemory result (Ok job)
only_spelled text (Ok found) job spelled spells = inl (ap ok_job (one_spelled text found job spelled spells))
only_spelled text (Err fault) job (inl memory) spells = inr (ap err_job memory)
only_spelled text (Err fault) job (inr refused) spells = absurd (spells.2 fault.kind fault.at refused.0)

-- for a text that is refused, an exact reading answers that refusal, or that memory runs out
pub exact_refusal : (text : List ℕ) (result : Result Tree JobFault) (k : JobKind) (at : ℕ) →
    MatchResult result (Spells text) (IsFair text) → IsRefused text k at → AnswersUnlessMemory result (Err (record { at = at; kind = k }))
exact_refusal text (Ok found) k at spelled refused = absurd (spelled.2 k at refused.0)
exact_refusal text (Err fault) k at (inl memory) refused = inr (ap err_job memory)
exact_refusal text (Err fault) k at (inr other) refused =
    let one = one_refusal text fault.kind k fault.at at other refused in
    inl (λ i. Err (record { at = one.1 i; kind = one.0 i }))
