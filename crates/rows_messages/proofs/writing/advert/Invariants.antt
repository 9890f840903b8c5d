use Rattle.vc_fetch.specs.Advert.{HasShortNames}
use Rattle.vc_fetch.specs.AdvertView.{advert_text}
use Rattle.rows_messages.proofs.writing.advert.Given as goal

abbrev pub invariant-refs : goal.invariant-refs
invariant-refs l = HasShortNames (advert_text l.advert)
