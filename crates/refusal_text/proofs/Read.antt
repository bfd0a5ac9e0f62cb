-- What is found in the job that the tokens of a text spell.
use Rattle.std.proofs.Common.{◌≡◌, ℕ, false, List, [], ◌∷◌, ◌++◌, refl, sym, ap, subst, ◌∙◌, append-nil, append_assoc, min}
use Rattle.std.specs.Prelude.{Option, Some, None, is_some}
use Rattle.std.specs.Global.{Vec}
use Rattle.job_tree.specs.declared.format.Format.{Format}
use Rattle.job_tree.specs.Tree.{Tree, Steps}
use Rattle.job_tree.specs.Names.{size_of}
use Rattle.job_tokens.specs.Lexing.{Gives}
use Rattle.job_reader.specs.Targets.{Named}
use Rattle.job_reader.specs.Uses.{Use, uses_of}
use Rattle.refusal_text.specs.declared.hinting.Hint.TheVariants as hint
use Rattle.refusal_text.specs.Hinting.{size_hint}
use Rattle.refusal_text.specs.Scopes.{around_stray, enclosing_names, names_held, or_names}

or_none : (found : Option (List (List ℕ))) → or_names found None ≡ found
or_none None = refl
or_none (Some names) = refl

-- the result of a search over all uses of names, whatever uses follow
pub whole : (found : Option (List (List ℕ))) (cs : List Use) →
    ((more : List Use) → around_stray (cs ++ more) ≡ or_names found (around_stray more)) → found ≡ around_stray cs
whole found cs is = sym (or_none found) ∙ sym (is []) ∙ ap around_stray (append-nil cs)

-- nothing is found if the code holds nothing
held_none : (found : Option (Vec (List ℕ))) → is_some found ≡ false → names_held found ≡ None
held_none None is = refl
held_none (Some names) is = absurd cc

-- What is found in a block after a use of a name that is not stray.
pub after_one : (around : List Named) (steps own : Steps) (u : Use) (first second : Option (Vec (List ℕ))) →
    steps ≡ own → is_some first ≡ false
    → ((more : List Use) → around_stray (u ∷ more) ≡ or_names (names_held first) (around_stray more))
    → ((more : List Use) → around_stray (uses_of around steps ++ more) ≡ or_names (names_held second) (around_stray more))
    → (more : List Use) → around_stray ((u ∷ uses_of around own) ++ more) ≡ or_names (names_held second) (around_stray more)
after_one around steps own u first second same none is is' more =
    ap (λ (s : Steps). around_stray (u ∷ (uses_of around s ++ more))) (sym same)
    ∙ is (uses_of around steps ++ more)
    ∙ ap (λ (x : Option (List (List ℕ))). or_names x (around_stray (uses_of around steps ++ more))) (held_none first none)
    ∙ is' more

-- What is found in the last of three parts, if the first two, of which one is a block, have no stray use of a name.
pub after_two : (around : List Named) (steps own : Steps) (hs cs : List Use) (first second third : Option (Vec (List ℕ))) →
    steps ≡ own → is_some first ≡ false → is_some second ≡ false
    → ((more : List Use) → around_stray (uses_of around steps ++ more) ≡ or_names (names_held first) (around_stray more))
    → ((more : List Use) → around_stray (hs ++ more) ≡ or_names (names_held second) (around_stray more))
    → ((more : List Use) → around_stray (cs ++ more) ≡ or_names (names_held third) (around_stray more))
    → (more : List Use) → around_stray ((uses_of around own ++ (hs ++ cs)) ++ more) ≡ or_names (names_held third) (around_stray more)
after_two around steps own hs cs first second third same none none' is is' is'' more =
    ap around_stray (append_assoc (uses_of around own) (hs ++ cs) more ∙ ap (λ (x : List Use). uses_of around own ++ x) (append_assoc hs cs more))
    ∙ ap (λ (s : Steps). around_stray (uses_of around s ++ (hs ++ (cs ++ more)))) (sym same)
    ∙ is (hs ++ (cs ++ more))
    ∙ ap (λ (x : Option (List (List ℕ))). or_names x (around_stray (hs ++ (cs ++ more)))) (held_none first none)
    ∙ is' (cs ++ more)
    ∙ ap (λ (x : Option (List (List ℕ))). or_names x (around_stray (cs ++ more))) (held_none second none')
    ∙ is'' more

-- no job is read
pub none_read : {X : Type 0} (view : X → Tree) (found : Option X) (read : Option Tree) → Gives view found read → found ≡ None → read ≡ None
none_read view found read gives is = subst (λ (x : Option _). Gives view x read) is gives

-- a job is read
pub some_read : {X : Type 0} (view : X → Tree) (x : X) (found : Option X) (read : Option Tree) → Gives view found read → found ≡ Some x →
    read ≡ Some (view x)
some_read view x found read gives is = subst (λ (y : Option _). Gives view y read) is gives

-- what could be named in a job that is read, given its steps
pub names_in : (names : Option (List (List ℕ))) (steps own : Steps) (name : List ℕ) (format : Format) (read : Option Tree) →
    read ≡ Some (record { format = format; name = name; steps = own }) → steps ≡ own → names ≡ around_stray (uses_of [] steps)
    → names ≡ enclosing_names read
names_in names steps own name format read is same found =
    found ∙ ap (λ (s : Steps). around_stray (uses_of [] s)) same ∙ sym (ap enclosing_names is)

-- the size of a job that is read, given its steps
pub size_in : (size : ℕ) (steps own : Steps) (name : List ℕ) (format : Format) (read : Option Tree) →
    read ≡ Some (record { format = format; name = name; steps = own }) → steps ≡ own → size ≡ min (size_of steps) 18446744073709551615
    → Some (hint.Size size) ≡ size_hint read
size_in size steps own name format read is same size_is =
    ap (λ (n : ℕ). Some (hint.Size n)) (size_is ∙ ap (λ (s : Steps). min (size_of s) 18446744073709551615) same) ∙ sym (ap size_hint is)
