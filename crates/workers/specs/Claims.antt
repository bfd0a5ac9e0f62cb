-- What contracts see of claims and tickets.
use Rattle.std.specs.Prelude.{◌≡◌, ℕ, List, [], Bool, nat_lt}
use Rattle.workers.specs.declared.batch.Claims.{Claims}
use Rattle.workers.specs.declared.worker.Pass.{Pass}

-- the number of requests
abbrev pub requests_of : Claims → ℕ
requests_of claims = claims.requests

-- the number of tickets that were created
abbrev pub passes_of : Claims → ℕ
passes_of claims = claims.word.shared.key.passes

-- the numbers that a ticket drew, in the order in which it drew them
abbrev pub drawn_by : Pass → List ℕ
drawn_by pass = pass.seat.me.0.drawn

-- whether a ticket got `None`, which says that no request is left
abbrev pub is_spent : Pass → Bool
is_spent pass = nat_lt 0 pass.seat.me.0.nones

-- The ticket is one of those that were created with these claims: it belongs to their table, stands for one ticket, and
-- has the number of requests.
pub record IsPassOf (claims : Claims) (pass : Pass) : Type 0 where
  pub table : pass.seat.table_id ≡ claims.word.shared.table_id
  pub slots : pass.seat.me.1 ≡ []
  pub one : pass.seat.me.0.parts ≡ 1
  pub requests : pass.seat.me.0.most ≡ requests_of claims
