use Rattle.std.proofs.Common.{rules, ◌≡◌, sym, ◌∙◌}
use Rattle.std.specs.Prelude.{codes}
use Rattle.std.specs.FinMap.{get}
use Rattle.std.proofs.lemmas.Map.Made.{filter_same_pairs}
use Rattle.vc_fetch.specs.Advert.{is_ref}
use Rattle.vc_fetch.specs.AdvertView.{ref_ids}
use Rattle.vc_fetch.proofs.RefMaps.{get-ref_ids, ref_ids-filter}
use Rattle.vc_fetch.proofs.advert.advert_of.Goals as goal

pub returns : goal.returns
returns c =
    let head : c.copied-head.result ≡ get (ref_ids c.args.listed) (codes "HEAD") = sym (get-ref_ids c.args.listed (codes "HEAD") ∙ search rules) in
    let kept = filter_same_pairs _ (λ e. is_ref e.0.items) _ (λ k v b w f t. search rules) _ _ c.retain.ensures.filtered in
    let refs = ref_ids-filter is_ref c.args.listed c.retain.new.self kept in
    λ i. record { head = head i; refs = refs i }
