use Rattle.job_edits.proofs.SiteLemmas.{next_token}
use Rattle.job_edits.proofs.site.sites.Goals as goal

pub tokens-preserved : goal.tokens-preserved
tokens-preserved c =
    next_token _ _ _ _ _ _ _ c.in-Some.token.now _ _ _ _ _ c.in-Some.ensures.cases.0 c.as_slice.ensures.value c.in_ok-push_site.ensures
    c.in_ok-pass_mark.ensures c.acquired_after-acquired.ensures c.begins_after-begins.ensures c.tokens.invariant
