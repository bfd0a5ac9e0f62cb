use Rattle.std.proofs.Common.{[]}
use Rattle.svg.specs.Content.{start_tag, end_tag}
use Rattle.svg.specs.declared.names.Tag.TheVariants as tags
use Rattle.page.specs.Pages.{front_part, story_part, tried_part}
use Rattle.page.specs.Views.{shown_held}
use Rattle.page.proofs.Appended.{three_inside}
use Rattle.page.proofs.pages.push_main.Goals as goal

pub returns : goal.returns
returns c =
    let shown = shown_held c.args.shown.now in
    three_inside c.end.result c.args.out.now.items (start_tag tags.Main []) (front_part shown) (story_part shown) (tried_part shown)
    (end_tag tags.Main) _ _ _ _ _ c.in_ok-begin_plain.ensures c.in_ok-push_front.ensures c.in_ok-push_story.ensures
    c.in_ok-push_tried.ensures c.end.ensures
