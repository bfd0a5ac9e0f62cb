use Rattle.objects.proofs.laws.law_limiters.Goals as goal
use Rattle.objects.proofs.LimiterLemmas.{limiters_serve}

pub returns : goal.returns
returns g c = limiters_serve
