-- What people rely on, whatever is done to a limiter or a channel.
use Rattle.std.specs.Prelude.{◌≡◌, ◌⊎◌, ℕ, ◌+◌, ◌≤◌, List, [], ◌∷◌, ◌++◌, length, IsTrue}
use Rattle.objects.specs.Limiters as limiters
use Rattle.objects.specs.Limiters.{LimiterAct, LimiterServed, new_limiter, askers, times_back}
use Rattle.objects.specs.Channels as channels
use Rattle.objects.specs.Channels.{Channel, ChannelAct, ChannelServed, new_channel, parts_sent, parts_received, senders_of, senders_served, senders_waiting, receivers_of, receivers_served}

-- a list has these elements in this order, and perhaps others
pub data IsSublist {X : Type 0} : List X → List X → Type 0 where
  none : {ys : List X} → IsSublist [] ys
  with_next : {x : X} {xs ys : List X} → IsSublist xs ys → IsSublist (x ∷ xs) (x ∷ ys)
  without_next : {y : X} {xs ys : List X} → IsSublist xs ys → IsSublist xs (y ∷ ys)

-- how a limiter with this number of tokens served some acts
pub record ServesTokens {A : Type 0} (tokens : ℕ) (acts : List (LimiterAct A)) (served : LimiterServed A) : Type 0 where
  -- Each token is free, or was taken and did not come back. So at most `tokens` are held.
  pub kept : served.limiter.free + length served.granted ≡ tokens + times_back acts
  -- nobody waits where a token is free
  pub none_left : (served.limiter.free ≡ 0) ⊎ (served.limiter.waiting ≡ [])
  -- who got a token asked before everybody who got one later or still waits
  pub in_turn : IsSublist (served.granted ++ served.limiter.waiting) (askers acts)

abbrev pub LimitersServe : Type 0 → Type 0
LimitersServe A = (tokens : ℕ) (acts : List (LimiterAct A)) → ServesTokens tokens acts (limiters.after_acts (new_limiter tokens) acts)

-- nobody waits in vain: no receiver where there is a part, no sender where there is a place, and nobody where the channel is closed
pub record NobodyIsLeft {A P : Type 0} (c : Channel A P) : Type 0 where
  pub receivers : (c.receivers ≡ []) ⊎ ((c.buffer ≡ []) × (c.senders ≡ []))
  pub senders : (c.senders ≡ []) ⊎ (length c.buffer ≡ c.places)
  pub closed : IsTrue c.is_closed → (c.senders ≡ []) × (c.receivers ≡ [])

-- how a channel with this number of places served some acts
pub record ServesParts {A P : Type 0} (places : ℕ) (acts : List (ChannelAct A P)) (served : ChannelServed A P) : Type 0 where
  -- What was sent was received once, in the order in which it was sent, or is in the buffer.
  pub kept : parts_sent served.granted ≡ parts_received served.granted ++ served.channel.buffer
  pub bounded : length served.channel.buffer ≤ places
  pub none_left : NobodyIsLeft served.channel
  -- who was served sent, or asked for a part, before everybody who was served later or still waits
  pub senders_in_turn : IsSublist (senders_served served.granted ++ senders_waiting served.channel.senders) (senders_of acts)
  pub receivers_in_turn : IsSublist (receivers_served served.granted ++ served.channel.receivers) (receivers_of acts)

abbrev pub ChannelsServe : Type 0 → Type 0 → Type 0
ChannelsServe A P = (places : ℕ) (acts : List (ChannelAct A P)) → ServesParts places acts (channels.after_acts (new_channel places) acts)
