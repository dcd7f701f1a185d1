-- The contract of the search leaves one result.
use Rattle.outcome.specs.OneResult.{OneResult}
use Rattle.outcome.proofs.OneLaw.{both}
use Rattle.search.proofs.searches.search.Reads as search

search_one : OneResult search.Learnt
search_one κs given x y s t = both
