use Rattle.objects.proofs.laws.law_channels.Goals as goal
use Rattle.objects.proofs.ChannelLemmas.{channels_serve}

pub returns : goal.returns
returns g c = channels_serve
