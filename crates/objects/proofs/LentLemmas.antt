-- The parts that a channel has and grants are of one input.
use Rattle.std.proofs.Common.{◌≡◌, ℕ, List, [], ◌∷◌, ◌++◌, Some, map, ap, sym, ◌∙◌, subst}
use Rattle.std.proofs.lemmas.List.{map-append}
use Rattle.std.specs.Option.{ForSome}
use Rattle.input_lines.specs.Part.{buffer_of}
use Rattle.input_lines.specs.declared.part.Part.{Part}
use Rattle.objects.specs.Held.{part_of, AreOf, AreGivenOf, IsGrantOf}
use Rattle.objects.specs.declared.channel.Sender.{Sender}
use Rattle.objects.specs.declared.given.Given.{Given}

lent_append : (input : List ℕ) (parts : List Part) (part : Part) → AreOf input parts → buffer_of part ≡ input → AreOf input (parts ++ part ∷ [])
lent_append input [] part are is = (is, tt)
lent_append input (other ∷ parts) part are is = (are.0, lent_append input parts part are.1 is)

given_append : (input : List ℕ) (gs : List Given) (g : Given) → AreGivenOf input gs → IsGrantOf input g.grant → AreGivenOf input (gs ++ g ∷ [])
given_append input [] g are is = (is, tt)
given_append input (h ∷ gs) g are is = (are.0, given_append input gs g are.1 is)

-- one more part
pub lent_more : (input : List ℕ) (before after : List Part) (part : Part) → after ≡ before ++ part ∷ [] → buffer_of part ≡ input →
    AreOf input before → AreOf input after
lent_more input before after part e is are = subst (AreOf input) (sym e) (lent_append input before part are is)

-- one more who waits to send
pub lent_sender : (input : List ℕ) (before after : List Sender) (sender : Sender) → after ≡ before ++ sender ∷ [] → buffer_of sender.part ≡ input →
    AreOf input (map part_of before) → AreOf input (map part_of after)
lent_sender input before after sender e is are =
    lent_more input (map part_of before) (map part_of after) sender.part (ap (map part_of) e ∙ map-append part_of before (sender ∷ [])) is are

-- one more grant
pub given_more : (input : List ℕ) (before after : List Given) (g : Given) → after ≡ before ++ g ∷ [] → IsGrantOf input g.grant →
    AreGivenOf input before → AreGivenOf input after
given_more input before after g e is are = subst (AreGivenOf input) (sym e) (given_append input before g are is)

-- a queue of senders without the first
pub lent_rest : (old : List Part) (senders : List Sender) (sender : Sender) (rest : List Sender) → senders ≡ sender ∷ rest →
    ((input : List ℕ) → AreOf input old → AreOf input (map part_of senders)) →
    (input : List ℕ) → AreOf input old → AreOf input (map part_of rest)
lent_rest old senders sender rest e kept input are =
    (subst (λ (ss : List Sender). AreOf input (map part_of ss)) e (kept input are)).1

-- and the first
pub lent_first : (old : List Part) (senders : List Sender) (sender : Sender) (rest : List Sender) → senders ≡ sender ∷ rest →
    ((input : List ℕ) → AreOf input old → AreOf input (map part_of senders)) →
    (input : List ℕ) → AreOf input old →
    AreOf input (map part_of rest) × ForSome (Some sender) (λ s. buffer_of s.part ≡ input)
lent_first old senders sender rest e kept input are =
    let first = (subst (λ (ss : List Sender). AreOf input (map part_of ss)) e (kept input are)).0 in
    (lent_rest old senders sender rest e kept input are, λ s is. cc)
