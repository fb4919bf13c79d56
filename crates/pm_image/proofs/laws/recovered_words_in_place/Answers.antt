use Rattle.pm_image.proofs.InPlace.{recovered_in_place}
use Rattle.pm_image.proofs.laws.recovered_words_in_place.Goals as goal

pub returns : goal.returns
returns c = recovered_in_place
