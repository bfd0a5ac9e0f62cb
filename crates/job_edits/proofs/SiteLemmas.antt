-- The sites of a text, token by token.
use Rattle.std.proofs.Common.{◌≡◌, ◌∙◌, ◌++◌, ap, ℕ, Bool, List, [], ◌∷◌, reverse, Option, Some, None}
use Rattle.std.proofs.lemmas.List.{append-nil, append_assoc}
use Rattle.job_tokens.specs.declared.token.Token.{Token}
use Rattle.job_tokens.specs.Shapes.{mark_in}
use Rattle.job_edits.specs.declared.site.Moment.{Moment}
use Rattle.job_edits.specs.declared.site.Site.{Site}
use Rattle.job_edits.specs.Waiting.{begins_after, step_keyword}
use Rattle.job_edits.specs.Copied.{blocks_by}
use Rattle.job_edits.specs.Releases.{acquired_by}
use Rattle.job_edits.specs.Sites.{moment_at, with_site, sites_from}

-- a site before others is appended first
site_first : (before : List Site) (from : ℕ) (m : Option Moment) (others : List Site) →
    (before ++ with_site from m []) ++ others ≡ before ++ with_site from m others
site_first before from None others = ap (λ sites. sites ++ others) (append-nil before)
site_first before from (Some m) others = append_assoc before (record { from = from; moment = m } ∷ []) others

-- The sites up to a token, and then those after it, are all sites. The open blocks before the token are listed with the innermost last.
pub next_token : (begins begins' : Bool) (blocks seen blocks' : List (Option (List ℕ))) (acquired acquired' : Option (List ℕ))
    (t : Token) (rest ts : List Token) (before after all : List Site) →
    rest ≡ t ∷ ts → seen ≡ blocks →
    after ≡ before ++ with_site t.at (moment_at (reverse seen) (mark_in t.shape) (step_keyword begins t) ts) [] →
    blocks' ≡ blocks_by (reverse blocks) acquired (mark_in t.shape) →
    acquired' ≡ acquired_by acquired (mark_in t.shape) (step_keyword begins t) ts →
    begins' ≡ begins_after t →
    before ++ sites_from begins (reverse blocks) acquired rest ≡ all →
    after ++ sites_from begins' blocks' acquired' ts ≡ all
next_token begins begins' blocks seen blocks' acquired acquired' t rest ts before after all is_rest is_seen is_after is_blocks is_acquired is_begins known =
    rw is_after
    (rw is_seen
    (rw is_blocks
    (rw is_acquired
    (rw is_begins
    (site_first before t.at (moment_at (reverse blocks) (mark_in t.shape) (step_keyword begins t) ts) _ ∙ rw is_rest at known)))))
