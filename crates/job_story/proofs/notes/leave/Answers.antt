use Rattle.std.proofs.Common.{◌≡◌, ℕ, Bool, List, Option, reverse, refl, ap, ◌∙◌}
use Rattle.std.specs.Prelude.{map}
use Rattle.std.specs.Option.{option_map}
use Rattle.cancel_scopes.specs.Sight.{catches}
use Rattle.exceptions.specs.Exceptions.{Label, Exc}
use Rattle.exceptions.specs.Held.{exc_of}
use Rattle.job_meaning.specs.Walk.{Left, from_for, stack_for, left_with, exc_after}
use Rattle.block_exits.specs.Held.{kind_of, left_of}
use Rattle.job_story.specs.Held.{unboxed_exc}
use Rattle.job_story.specs.Story.{leaves}
use Rattle.job_story.specs.Tell.{story_of_one}
use Rattle.job_meaning.specs.Clocks.{tick_of}
use Rattle.job_story.specs.Heres.{scopes_of}
use Rattle.job_story.specs.Tales.{own_of}
use Rattle.job_story.proofs.Adding.{adds_like}
use Rattle.job_story.proofs.notes.leave.Goals as goal

pub returns : goal.returns
returns c =
    let inner = option_map exc_of c.args.inside.exc in
    let block = c.args.block.now in
    let kind = kind_of block.kind in
    let label = block.label in
    let end = c.args.inside.end in
    let tick = tick_of c.args.here.clock end in
    let own = own_of c.args.progress.now in
    let left = left_with (catches (from_for own end label block.from) block.shield (stack_for own end (scopes_of c.args.here)) end) inner in
    let is : left_of c.in_ok-left.left ≡ left =
    c.in_ok-left.ensures
    ∙ ap (λ (b : Bool). left_with b inner) (c.catches-catches.ensures ∙ ap (λ (ls : List Label).
    catches (from_for (reverse ls) end label block.from) block.shield (stack_for (reverse ls) end (scopes_of c.args.here)) end)
    c.as_slice.ensures.value) in
    let outer : option_map exc_of c.in_ok-outer.outer ≡ exc_after kind label tick left =
    c.in_ok-outer.ensures
    ∙ (ap (λ (l : Left). exc_after kind label c.tick_of-tick.result l) is ∙ ap (λ (t : ℕ). exc_after kind label t left)
    c.tick_of-tick.ensures) in
    let held = unboxed_exc c.in_ok-outside.outside in
    record {
      end = refl;
      exc = outer;
      open_until = refl;
      open_excs = ap (map exc_of) c.new.ensures.items;
      events =
          adds_like _ _ _ _ _ c.in_ok-note.ensures
          (ap (λ (l : Label). story_of_one end (leaves kind l (unboxed_exc c.in_ok-inner.inner) c.in_ok-left.left.caught held))
          c.in_ok-label.ensures
          ∙ (ap (λ (o : Option Exc). story_of_one end (leaves kind label o c.in_ok-left.left.caught held)) c.in_ok-inner.ensures
          ∙ (ap (λ (l : Left). story_of_one end (leaves kind label inner l.caught held)) is
          ∙ ap (λ (o : Option Exc). story_of_one end (leaves kind label inner left.caught o)) (c.in_ok-outside.ensures ∙ outer))));
      own = refl;
    }
