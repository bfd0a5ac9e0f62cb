use Rattle.std.proofs.Common.{◌≡◌, ◌-◌, length, List, ℕ, ap, ◌∙◌}
use Rattle.std.specs.List.{slice_get}
use Rattle.clock.specs.KeptTimers.{KeepsLive}
use Rattle.clock.proofs.KeyListLemmas.{keeps_sorted, keeps_then, last_live}
use Rattle.clock.proofs.key_list.KeyList.first_live.Goals as goal

pub returns-clause-kept : goal.returns-clause-kept
returns-clause-kept c =
    let keys = c.self.inside.keys.items in
    rw (← c.self.view_is)
    (keeps_then c.args.ticks.now c.args.tick keys c.sort.new.keys.items c.drop_stale.new.keys.items
    (keeps_sorted c.args.ticks.now c.args.tick keys c.sort.new.keys.items c.sort.ensures.same) c.drop_stale.ensures.kept)

pub returns-clause-first : goal.returns-clause-first
returns-clause-first c =
    let keys = c.self.inside.keys.items in
    let later = c.drop_stale.new.keys.items in
    let kept : KeepsLive c.args.ticks.now c.args.tick keys later =
    keeps_then c.args.ticks.now c.args.tick keys c.sort.new.keys.items later
    (keeps_sorted c.args.ticks.now c.args.tick keys c.sort.new.keys.items c.sort.ensures.same) c.drop_stale.ensures.kept in
    let last : c.copied.result ≡ slice_get later (length later - 1) =
    c.copied.ensures ∙ c.last.ensures.value ∙ ap (λ (l : List ℕ). slice_get l (length l - 1)) c.deref.ensures.value in
    rw (← c.self.view_is)
    (last_live c.args.ticks.now c.args.tick keys later c.copied.result kept (c.drop_stale.ensures.sorted c.sort.ensures.sorted) c.drop_stale.ensures.live last)
