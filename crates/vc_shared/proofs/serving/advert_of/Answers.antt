use Rattle.std.proofs.Common.{arith, rules, ◌≡◌, ◌≤◌, ◌+◌, ◌++◌, ◌∷◌, [], List, length, take, sym, ap, ◌∙◌, subst}
use Rattle.std.specs.FinMap.{empty, get}
use Rattle.std.proofs.lemmas.List.{take_all, take_more}
use Rattle.vc_fetch.specs.Advert.{AdvertText, Ref, RefIds, with_ref}
use Rattle.vc_fetch.specs.AdvertView.{advert_text}
use Rattle.vc_refname.specs.RefName.{IsRefName}
use Rattle.vc_shared.proofs.ServingRefs.{few_bytes, set_all, with_all, with_all-none, with_all-push}
use Rattle.vc_shared.proofs.serving.advert_of.Goals as goal

pub loop-name-init : goal.loop-name-init
loop-name-init c = record {
  told = ap (λ (ids : RefIds). record { head = c.args.head; refs = ids }) (ap (λ (t : AdvertText). t.refs) c.new-advert.ensures.none ∙ sym (with_all-none empty));
  short = c.new-advert.ensures.short;
}

pub loop-name-preserved : goal.loop-name-preserved
loop-name-preserved c =
    let listed : List Ref = c.args.listed.now in
    let i = c.loop-name.name-index in
    let ref : Ref = c.loop-name-item.result in
    let name : c.as_bytes.result.now ≡ ref.0 = search rules in
    let legal : IsRefName ref.0 = subst IsRefName c.as_str.ensures.text c.as_str.ensures.legal in
    let more : take (i + 1) listed ≡ take i listed ++ ref ∷ [] = take_more listed i ref c.loop-name-test.true ∙ ap (λ r. take i listed ++ r ∷ []) (sym c.loop-name-item.is) in
    record {
      told = c.in_ok-set.ensures.ok
          ∙ ap (λ n. with_ref (advert_text c.loop-name.advert) n ref.1) name
          ∙ ap (λ t. with_ref t ref.0 ref.1) c.loop-name.invariant.told
          ∙ ap (λ (ids : RefIds). record { head = c.args.head; refs = ids }) (sym (with_all-push empty (take i listed) ref) ∙ ap (with_all empty) (sym more));
      short = c.in_ok-set.ensures.short (subst (λ n. length n ≤ 65450) (sym name) (few_bytes ref.0 legal)) c.loop-name.invariant.short;
    }

pub returns-clause-head : goal.returns-clause-head
returns-clause-head c = ap (λ (t : AdvertText). t.head) c.loop-name.invariant.told

pub returns-clause-refs : goal.returns-clause-refs
returns-clause-refs c = λ sorted name.
    let listed : List Ref = c.args.listed.now in
    let all : take c.loop-name.name-index listed ≡ listed = take_all c.loop-name.name-index listed (omega (arith, c.loop-name-test.false)) in
    ap (λ (t : AdvertText). get t.refs name) c.loop-name.invariant.told ∙ ap (λ refs. get (with_all empty refs) name) all ∙ set_all listed name sorted

pub returns-clause-short : goal.returns-clause-short
returns-clause-short c = c.loop-name.invariant.short
