use Rattle.pst_token.proofs.Ordered.{ends_once, rising}
use Rattle.pst_token.proofs.laws.tokens_are_in_order.Goals as goal

pub returns : goal.returns
returns c = λ file names text tokens h. (ends_once file names text tokens h, rising file names text tokens h)
