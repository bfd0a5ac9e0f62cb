use Rattle.std.proofs.Common.{List, ap, refl, ◌∙◌}
use Rattle.std.specs.Prelude.{map}
use Rattle.input_lines.specs.Part.{span_of}
use Rattle.input_lines.specs.Lines.{Span}
use Rattle.job_story.specs.Story.{finds}
use Rattle.job_story.specs.Tell.{story_of_one, tell_lines}
use Rattle.job_story.proofs.Adding.{adds_like}
use Rattle.job_story.proofs.leaves.show_lines.Goals as goal

pub returns : goal.returns
unfolding tell_lines
returns c = record {
  stretch = c.at.ensures _ _;
  events = adds_like _ _ _ _ _ c.in_ok-note.ensures
      (ap (λ (ls : List Span). story_of_one c.args.moment (finds ls)) (c.in_ok-lines.ensures ∙ ap (map span_of) c.as_slice.ensures));
  own = refl;
}
