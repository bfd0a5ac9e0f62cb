-- The ticks of a chart, as they are appended.
use Rattle.std.proofs.Common.{◌≡◌, refl, sym, ap, ◌∙◌}
use Rattle.std.specs.Prelude.{ℕ, List, [], ◌∷◌, ◌++◌}
use Rattle.cancel_scopes.specs.Sight.{Tick}
use Rattle.job_meaning.specs.Moments.{tick_of}
use Rattle.job_meaning.specs.declared.clock.Clock.{Clock}
use Rattle.job_story.specs.Events.{Event}
use Rattle.chart.specs.Ticks.{if_tick, ticks_of_events, all_ticks}

events_then : (clock : Clock) (es : List Event) (ts : List ℕ) → ticks_of_events clock es ts ≡ ticks_of_events clock es [] ++ ts
events_then clock [] ts = refl
events_then clock (e ∷ es) ts = ap (λ us. tick_of clock e.tick ∷ us) (events_then clock es ts)

-- all of them are those of the events, then the limit
pub ticks_in_order : (clock : Clock) (es : List Event) (until : Tick) (none ts us : List ℕ) →
    none ≡ [] → ts ≡ none ++ ticks_of_events clock es [] → us ≡ ts ++ if_tick until [] → us ≡ all_ticks clock es until
ticks_in_order clock es until none ts us start first last =
    last ∙ ap (λ xs. xs ++ if_tick until []) (first ∙ ap (λ xs. xs ++ ticks_of_events clock es []) start)
    ∙ sym (events_then clock es (if_tick until []))
