use Rattle.std.proofs.Common.{◌≡◌, length, rules}
use Rattle.job_layout.proofs.Formatted.{code_gives}
use Rattle.job_layout.proofs.formatting.formatted_text.Goals as goal

pub returns : goal.returns
returns c =
    let counted : c.len.result ≡ length c.in_ok-spelled.spelled.items = search rules in
    code_gives c.args.text.now c.in_ok-bytes.bytes.items c.commented_body-body.result.now c.args.job.now c.in_ok-spelled.spelled.items
    c.in_ok-bare.bare.items c.as_slice.result.now c.in_ok-tokens.tokens.items c.as_slice-2.result.now c.text_format.result c.text_format-2.result
    c.len.result c.requires c.in_ok-spelled.ensures c.text_format.ensures c.commented_body-body.ensures counted
    c.in_ok-bare.ensures c.as_slice.ensures.value c.in_ok-tokens.ensures.tokens c.as_slice-2.ensures.value c.text_format-2.ensures
    c.in_ok-bytes.ensures
