use Rattle.std.proofs.Common.{◌≡◌, take}
use Rattle.std.specs.FinMap.{empty}
use Rattle.vc_fetch.specs.Advert.{AdvertText, HasShortNames}
use Rattle.vc_fetch.specs.AdvertView.{advert_text}
use Rattle.vc_shared.proofs.ServingRefs.{with_all}
use Rattle.vc_shared.proofs.serving.advert_of.Given as goal

-- those so far are told, and they are short
abbrev pub invariant-loop-name : goal.invariant-loop-name
invariant-loop-name l = record {
  told : ◌≡◌ {A = AdvertText} (advert_text l.advert) (record { head = l.fn.head; refs = with_all empty (take l.name-index l.listed) });
  short : HasShortNames (advert_text l.advert);
}
