-- What is noted in the world, to be served at the end of the round, of the events of a move.
use Rattle.std.proofs.Common.{◌≡◌, ℕ, zero, suc, ◌+◌, Option, Some, None, List, [], ◌∷◌, ◌++◌, append_assoc, map, refl, ap, sym, ◌∙◌}
use Rattle.std.proofs.lemmas.List.{append-nil, map-append}
use Rattle.input_lines.specs.Lines.{Span}
use Rattle.exceptions.specs.Exceptions.{Label, Exc}
use Rattle.job_meaning.specs.Log.{Act, opens, asks, gives_back, closes}
use Rattle.job_meaning.specs.Walk.{Here, label_over}
use Rattle.job_meaning.specs.Rest.{Event, noted, signs, enters, acts, starts, starts_over}
use Rattle.turn_semantics.specs.Midway.{Place}
use Rattle.turn_semantics.specs.Steps.{home_among, signs_to, signs_home}
use Rattle.turn_semantics.specs.Wakes.{lines_made}
use Rattle.task_machine.specs.declared.serving.ObjectAct.{ObjectAct}
use Rattle.task_machine.specs.Serving.{Acted, acted_of, acted_before, acts_to_serve}

-- an act before those of two moves
acted_append : (l : Label) (a : Act) (xs ys zs : List Acted) → xs ≡ ys ++ zs → acted_before l a xs ≡ acted_before l a ys ++ zs
acted_append l (opens kind) xs ys zs e = ap (λ (os : List Acted). record { object = l; act = opens kind } ∷ os) e
acted_append l (asks ask part left) xs ys zs e = e
acted_append l gives_back xs ys zs e = ap (λ (os : List Acted). record { object = l; act = gives_back } ∷ os) e
acted_append l closes xs ys zs e = ap (λ (os : List Acted). record { object = l; act = closes } ∷ os) e

-- what is to be served of the events of two moves
pub serve_append : (es fs : List Event) → acts_to_serve (es ++ fs) ≡ acts_to_serve es ++ acts_to_serve fs
serve_append [] fs = refl
serve_append (noted t e ∷ es) fs = serve_append es fs
serve_append (signs l t ∷ es) fs = serve_append es fs
serve_append (enters l t d ∷ es) fs = serve_append es fs
serve_append (acts l t a ∷ es) fs = acted_append l a (acts_to_serve (es ++ fs)) (acts_to_serve es) (acts_to_serve fs) (serve_append es fs)
serve_append (starts i l t ∷ es) fs = serve_append es fs

-- both moves note what they did
pub served_then : (old mid new : List ObjectAct) (es fs : List Event) → map acted_of mid ≡ map acted_of old ++ acts_to_serve es →
    map acted_of new ≡ map acted_of mid ++ acts_to_serve fs → map acted_of new ≡ map acted_of old ++ acts_to_serve (es ++ fs)
served_then old mid new es fs first second =
    second ∙ ap (λ (os : List Acted). os ++ acts_to_serve fs) first
    ∙ append_assoc (map acted_of old) (acts_to_serve es) (acts_to_serve fs)
    ∙ ap (λ (os : List Acted). map acted_of old ++ os) (sym (serve_append es fs))

-- ---- nothing is to be served

-- and nothing is noted
pub unacted : (old new : List ObjectAct) → new ≡ old → map acted_of new ≡ map acted_of old ++ []
unacted old new same = ap (map acted_of) same ∙ sym (append-nil (map acted_of old))

pub unserved : (old new : List ObjectAct) (made : List Event) → acts_to_serve made ≡ [] → new ≡ old →
    map acted_of new ≡ map acted_of old ++ acts_to_serve made
unserved old new made none same = unacted old new same ∙ ap (λ (os : List Acted). map acted_of old ++ os) (sym none)

-- a sign is no act
pub signs_unserved : (label : Option Label) (t : ℕ) → acts_to_serve (signs_to label t) ≡ []
signs_unserved None t = refl
signs_unserved (Some l) t = refl

pub home_unserved : (exc : Option Exc) (ps : List Place) (t : ℕ) → acts_to_serve (signs_home exc ps t) ≡ []
home_unserved None ps t = refl
home_unserved (Some e) ps t = signs_unserved (home_among ps) t

-- nor is a line
pub lines_unserved : (t : ℕ) (spans : List Span) → acts_to_serve (lines_made t spans) ≡ []
lines_unserved t [] = refl
lines_unserved t (l ∷ spans) = lines_unserved t spans

-- nor the start of a child
pub over_unserved : (name : List ℕ) (here : Here) (t first k : ℕ) → acts_to_serve (starts_over name here t first k) ≡ []
over_unserved name here t first zero = refl
over_unserved name here t first (suc k) =
    serve_append (starts_over name here t first k) (starts (first + k) (label_over name here k) t ∷ [])
    ∙ append-nil (acts_to_serve (starts_over name here t first k)) ∙ over_unserved name here t first k

-- ---- something is to be served

-- what is noted last
pub acted_last : (old : List ObjectAct) (a : ObjectAct) → map acted_of (old ++ a ∷ []) ≡ map acted_of old ++ acted_of a ∷ []
acted_last old a = map-append acted_of old (a ∷ [])
