use Rattle.std.proofs.Common.{◌≡◌, take, drop}
use Rattle.basics.specs.Feed.{feed_parts, feed_from, with_front}
use Rattle.basics.proofs.feed.split_feed.Given as goal

abbrev pub invariant-bytes : goal.invariant-bytes
invariant-bytes l = feed_parts l.feed ≡ with_front (take l.i l.feed) (feed_from l.starts (drop l.i l.feed))
