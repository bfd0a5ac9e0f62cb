-- The parts of a group one by one.
use Rattle.std.proofs.Common.{◌≡◌, ℕ, zero, suc, ◌+◌, ◌<◌, List, [], ◌∷◌, ◌++◌, length, map, take, refl, sym, ap, ◌∙◌, arith}
use Rattle.std.specs.Prelude.{slice_index_or}
use Rattle.exceptions.specs.declared.exc.Exc.{Exc}
use Rattle.exceptions.specs.Held.{exc_of, excs_of}
use Rattle.serde_json.specs.Data.{Data}
use Rattle.serde_json.specs.View.{view}
use Rattle.serde_json.specs.declared.value.Value.{Value}
use Rattle.json_story.specs.Values.{exc_json, parts_json}

-- a further part is after the others
parts_json-take : (es : List Exc) (i : ℕ) (d : Exc) → i < length es →
    parts_json (excs_of (take (i + 1) es)) ≡ parts_json (excs_of (take i es)) ++ exc_json (exc_of (slice_index_or es i d)) ∷ []
parts_json-take [] i d h = absurd (omega arith)
parts_json-take (e ∷ es) zero d h = refl
parts_json-take (e ∷ es) (suc i) d h =
    let step : suc i + 1 ≡ suc (i + 1) = omega arith in
    rw step (ap (λ (ds : List Data). exc_json (exc_of e) ∷ ds) (parts_json-take es i d (omega arith)))

map_push : (old : List Value) (v : Value) → map view (old ++ v ∷ []) ≡ map view old ++ view v ∷ []
map_push [] v = refl
map_push (x ∷ xs) v = ap (λ (ds : List Data). view x ∷ ds) (map_push xs v)

-- the values so far, and that of the next part
pub parts_pushed : (es : List Exc) (i : ℕ) (e : Exc) (old new : List Value) (v : Value) → i < length es → e ≡ slice_index_or es i e →
    new ≡ old ++ v ∷ [] → map view old ≡ parts_json (excs_of (take i es)) → view v ≡ exc_json (exc_of e) →
    map view new ≡ parts_json (excs_of (take (i + 1) es))
parts_pushed es i e old new v h is pushed before shown =
    ap (map view) pushed ∙ map_push old v ∙ ap (λ (ds : List Data). ds ++ view v ∷ []) before
    ∙ ap (λ (d : Data). parts_json (excs_of (take i es)) ++ d ∷ []) (shown ∙ ap (λ (x : Exc). exc_json (exc_of x)) is)
    ∙ sym (parts_json-take es i e h)
