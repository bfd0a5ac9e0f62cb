-- What holds of the moment of each act in a log, and of each act to one limiter or channel.
use Rattle.std.proofs.Common.{ℕ, ◌≤◌, Bool, true, false, ◌++◌, arith}
use Rattle.exceptions.specs.Exceptions.{Label}
use Rattle.job_meaning.specs.Log.{Log, nil, entry, sign, entered, act, task, followed_by, same_label}
use Rattle.job_meaning.specs.Sharing.{done_if, own_acts, acts_in}
use Rattle.job_meaning.proofs.Late.{Timed}
use Rattle.job_meaning.proofs.GrantsBefore.{Each, each_append}

-- each act in a log, those of the tasks that it starts too, is done in a moment with this property
abbrev pub EachAct : (ℕ → Type 0) → Log → Type 0
EachAct P nil = Unit {0}
EachAct P (entry m e rest) = EachAct P rest
EachAct P (sign l m rest) = EachAct P rest
EachAct P (entered l m d rest) = EachAct P rest
EachAct P (act l m a rest) = P m × EachAct P rest
EachAct P (task l s u e own rest) = EachAct P own × EachAct P rest

-- so it is with two logs together
pub act_followed : (P : ℕ → Type 0) (a b : Log) → EachAct P a → EachAct P b → EachAct P (followed_by a b)
act_followed P nil b h k = k
act_followed P (entry m e rest) b h k = act_followed P rest b h k
act_followed P (sign l m rest) b h k = act_followed P rest b h k
act_followed P (entered l m d rest) b h k = act_followed P rest b h k
act_followed P (act l m a rest) b h k = (h.0, act_followed P rest b h.1 k)
act_followed P (task l s u e own rest) b h k = (h.0, act_followed P rest b h.1 k)

-- and with a log in which all is at t or later, for what holds from then on
pub act_timed : (P : ℕ → Type 0) (t : ℕ) (a : Log) → ((u : ℕ) → t ≤ u → P u) → Timed t a → EachAct P a
act_timed P t nil f h = tt
act_timed P t (entry m e rest) f h = act_timed P t rest f h.1
act_timed P t (sign l m rest) f h = act_timed P t rest f h.1
act_timed P t (entered l m d rest) f h = act_timed P t rest f h.1
act_timed P t (act l m a rest) f h = (f m h.0, act_timed P t rest f h.1)
act_timed P t (task l s u e own rest) f h = (act_timed P s own (λ w le. f w (later w le)) h.2, act_timed P t rest f h.3)
  where
    later : (w : ℕ) → s ≤ w → t ≤ w
    later w le = let first : t ≤ s = h.0 in omega arith

-- what a task itself does to an object
pub own_acts_each : (P : ℕ → Type 0) (l t : Label) (a : Log) → EachAct P a → Each P (own_acts l t a)
own_acts_each P l t nil h = tt
own_acts_each P l t (entry m e rest) h = own_acts_each P l t rest h
own_acts_each P l t (sign k m rest) h = own_acts_each P l t rest h
own_acts_each P l t (entered k m d rest) h = own_acts_each P l t rest h
own_acts_each P l t (act k m a rest) h = by_label (same_label l k) (own_acts_each P l t rest h.1)
  where
    by_label : (b : Bool) → Each P (own_acts l t rest) → Each P (done_if b (record { at = m; task = t; act = a }) (own_acts l t rest))
    by_label true i = (h.0, i)
    by_label false i = i
own_acts_each P l t (task k s u e own rest) h = own_acts_each P l t rest h.1

-- and what all tasks of a log do to it
pub acts_each : (P : ℕ → Type 0) (l : Label) (a : Log) → EachAct P a → Each P (acts_in l a)
acts_each P l nil h = tt
acts_each P l (entry m e rest) h = acts_each P l rest h
acts_each P l (sign k m rest) h = acts_each P l rest h
acts_each P l (entered k m d rest) h = acts_each P l rest h
acts_each P l (act k m a rest) h = acts_each P l rest h.1
acts_each P l (task k s u e own rest) h =
    each_append P (own_acts l k own) (acts_in l own ++ acts_in l rest) (own_acts_each P l k own h.0)
    (each_append P (acts_in l own) (acts_in l rest) (acts_each P l own h.0) (acts_each P l rest h.1))
