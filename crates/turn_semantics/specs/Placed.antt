-- Which frames a task may have inside its enclosing scopes and nurseries, and which children its nurseries have.
use Rattle.std.specs.Prelude.{◌≡◌, ◌⊎◌, ℕ, ◌<◌, Bool, true, false, Option, Some, None, is_some, List, [], ◌∷◌}
use Rattle.job_tree.specs.Starting.{starts_in_pass, StartsIn, HandlerStarts, CleanupStarts}
use Rattle.job_meaning.specs.Asking.{Suits}
use Rattle.job_meaning.specs.Rest.{Frame, steps_left, in_scope, in_event, with_token, with_part, in_nursery, in_repeat, in_try, in_handler, in_cleanup, Stopped, to_begin, asking, waiting_for, queued, awaiting, at_end}
use Rattle.turn_semantics.specs.Lists.{Each, IsAmong}
use Rattle.turn_semantics.specs.Midway.{Place, label_among, Begun}

-- whether the innermost frame but for repeats is a nursery's body
abbrev pub in_body : List Frame → Bool
in_body [] = false
in_body (in_nursery children ∷ fs) = true
in_body (steps_left ss ∷ fs) = in_body fs
in_body (in_repeat pass left cuts body ∷ fs) = starts_in_pass (is_some cuts) (in_body fs)
in_body (_ ∷ fs) = false

-- Frames of a task with these enclosing scopes, nurseries and events: each scope, nursery and event among the frames is
-- one of these, and each `start` that is left is directly in a nursery.
abbrev pub Placed : List Frame → List Place → Type 0
Placed [] ps = Unit {0}
Placed (steps_left ss ∷ fs) ps = StartsIn (in_body fs) ss × Placed fs ps
Placed (in_scope fail ∷ fs) (p ∷ ps) = (p.is_event ≡ false) × Placed fs ps
Placed (in_event ∷ fs) (p ∷ ps) = (p.is_event ≡ true) × Placed fs ps
Placed (with_token limiter ∷ fs) ps = Placed fs ps
Placed (with_part received ∷ fs) ps = Placed fs ps
Placed (in_nursery children ∷ fs) (p ∷ ps) = (p.is_event ≡ false) × Placed fs ps
Placed (in_repeat pass left cuts body ∷ fs) ps = StartsIn (starts_in_pass (is_some cuts) (in_body fs)) body × Placed fs ps
Placed (in_try handler cleanup ∷ fs) ps = HandlerStarts handler × CleanupStarts cleanup × Placed fs ps
Placed (in_handler rest cleanup ∷ fs) ps = CleanupStarts cleanup × Placed fs ps
Placed (in_cleanup outcome ∷ fs) ps = Placed fs ps
Placed (_ ∷ fs) [] = ⊥

abbrev pub IsSome : {A : Type 0} → Option A → Type 0
IsSome None = ⊥
IsSome (Some x) = Unit {0}

-- A stop, and the frames and enclosing scopes and nurseries of the task: a kernel was asked for a purpose that suits
-- it, an event for which the task waits encloses it, a task that waits does so for its innermost nursery, and a task that ended has no frame left.
abbrev pub PlacedStop : Stopped → List Frame → List Place → Type 0
PlacedStop to_begin fs ps = Placed fs ps
PlacedStop (asking kernel purpose) fs ps = Suits kernel purpose × Placed fs ps
PlacedStop (waiting_for event since) fs ps = IsSome (label_among true event ps) × Placed fs ps
PlacedStop (queued object ask since body) fs ps = IsSome (label_among true object ps) × StartsIn false body × Placed fs ps
PlacedStop (awaiting children ended exc) fs [] = ⊥
PlacedStop (awaiting children ended exc) fs (p ∷ ps) = (p.is_event ≡ false) × Placed fs ps
PlacedStop (at_end u e) fs ps = fs ≡ []
PlacedStop _ fs ps = Placed fs ps

-- frames of a task after a move
abbrev pub PlacedAfter : Option Stopped → List Frame → List Place → Type 0
PlacedAfter None fs ps = Placed fs ps
PlacedAfter (Some s) fs ps = PlacedStop s fs ps

-- the scopes and nurseries that enclose the nursery that a task waits for, and all that enclose a task that does not
-- wait
abbrev pub outer_places : Option Stopped → List Place → List Place
outer_places None ps = ps
outer_places (Some to_begin) ps = ps
outer_places (Some (awaiting children ended exc)) [] = []
outer_places (Some (awaiting children ended exc)) (p ∷ ps) = ps
outer_places (Some _) ps = ps

-- the scopes and nurseries that enclose a task and are not those of its own frames: those of its home
abbrev pub home_places : List Frame → List Place → List Place
home_places [] ps = ps
home_places (in_scope fail ∷ fs) [] = []
home_places (in_scope fail ∷ fs) (p ∷ ps) = home_places fs ps
home_places (in_event ∷ fs) [] = []
home_places (in_event ∷ fs) (p ∷ ps) = home_places fs ps
home_places (in_nursery children ∷ fs) [] = []
home_places (in_nursery children ∷ fs) (p ∷ ps) = home_places fs ps
home_places (_ ∷ fs) ps = home_places fs ps

-- and for a task that stopped, or did not
abbrev pub home_after : Option Stopped → List Frame → List Place → List Place
home_after s fs ps = home_places fs (outer_places s ps)

-- numbers of children that are below the count of those started
abbrev pub AllBelow : ℕ → List ℕ → Type 0
AllBelow n is = Each (λ i. i < n) is

-- the children that each nursery among the frames has started
abbrev pub nurseries_of : List Frame → List (List ℕ)
nurseries_of [] = []
nurseries_of (in_nursery children ∷ fs) = children ∷ nurseries_of fs
nurseries_of (_ ∷ fs) = nurseries_of fs

-- and those of the nursery that the task waits for
abbrev pub nurseries_after : Option Stopped → List Frame → List (List ℕ)
nurseries_after (Some (awaiting children ended exc)) fs = children ∷ nurseries_of fs
nurseries_after _ fs = nurseries_of fs

-- the children of each nursery among the frames are below the count
abbrev pub KidsBelow : ℕ → List Frame → Type 0
KidsBelow n fs = Each (λ children. AllBelow n children) (nurseries_of fs)

-- and those of the nursery that the task waits for
abbrev pub KidsAfter : ℕ → Option Stopped → List Frame → Type 0
KidsAfter n stop fs = Each (λ children. AllBelow n children) (nurseries_after stop fs)

-- A nursery among the frames has this child, and these are the nursery and those that enclose it: the child's home.
abbrev pub HasChild : ℕ → List Place → List Frame → List Place → Type 0
HasChild i home [] ps = ⊥
HasChild i home (in_scope fail ∷ fs) [] = ⊥
HasChild i home (in_scope fail ∷ fs) (p ∷ ps) = HasChild i home fs ps
HasChild i home (in_event ∷ fs) [] = ⊥
HasChild i home (in_event ∷ fs) (p ∷ ps) = HasChild i home fs ps
HasChild i home (in_nursery children ∷ fs) [] = ⊥
HasChild i home (in_nursery children ∷ fs) (p ∷ ps) = (IsAmong i children × (home ≡ p ∷ ps)) ⊎ HasChild i home fs ps
HasChild i home (_ ∷ fs) ps = HasChild i home fs ps

-- the task waits for a nursery with this child, which has this home
abbrev pub WaitsFor : ℕ → List Place → Option Stopped → List Place → Type 0
WaitsFor i home None ps = ⊥
WaitsFor i home (Some to_begin) ps = ⊥
WaitsFor i home (Some (awaiting children ended exc)) [] = ⊥
WaitsFor i home (Some (awaiting children ended exc)) (p ∷ ps) = IsAmong i children × (home ≡ p ∷ ps)
WaitsFor i home (Some _) ps = ⊥

-- and for any nursery of a task
abbrev pub HasChildAfter : ℕ → List Place → Option Stopped → List Frame → List Place → Type 0
HasChildAfter i home s fs ps = WaitsFor i home s ps ⊎ HasChild i home fs (outer_places s ps)

-- each child begun belongs to a nursery of the task, and is enclosed by that nursery and those that enclose it
abbrev pub AllHoused : List Begun → Option Stopped → List Frame → List Place → Type 0
AllHoused [] s fs ps = Unit {0}
AllHoused (b ∷ bs) s fs ps = HasChildAfter b.number b.places s fs ps × AllHoused bs s fs ps
