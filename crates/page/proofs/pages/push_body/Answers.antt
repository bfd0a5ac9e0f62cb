use Rattle.std.proofs.Common.{[]}
use Rattle.svg.specs.Content.{start_tag, end_tag}
use Rattle.svg.specs.Escaping.{escaped_text}
use Rattle.svg.specs.declared.names.Tag.TheVariants as tags
use Rattle.page.specs.Markup.{element_text}
use Rattle.page.specs.Pages.{main_element}
use Rattle.page.specs.Views.{shown_held}
use Rattle.page.proofs.Appended.{two_inside}
use Rattle.page.proofs.pages.push_body.Goals as goal

pub returns : goal.returns
returns c =
    let shown = shown_held c.args.shown.now in
    two_inside c.end.result c.args.out.now.items (start_tag tags.Body []) (main_element shown)
    (element_text tags.Footer [] (escaped_text shown.made)) (end_tag tags.Body) _ _ _ _ c.in_ok-begin_plain.ensures
    c.in_ok-push_main.ensures c.in_ok-push_plain.ensures c.end.ensures
