use Rattle.std.proofs.Common.{rules, IsSome, ⊎_elim}
use Rattle.vc_lemmas.proofs.Lists.{value_of, some_of}
use Rattle.vc_known.proofs.StaysLemmas.{known-ancestor}
use Rattle.vc_known.specs.Known.{generation_in, layer_in}
use Rattle.vc_known.proofs.known.Known.learn.Goals as goal

pub returns-clause-agrees : goal.returns-clause-agrees
returns-clause-agrees g c honest agrees =
    let objects = g.C.Objects.objects (g.C.Objects.state_of c.args.commits.now) in
    let old = c.args.self.now in
    let root = c.args.root.now in
    let some : IsSome (layer_in old root) = search rules in
    let learnt = c.in_ok-learn.ensures.learnt honest agrees.generations in
    record {
      layers = agrees.layers;
      kinds = agrees.kinds;
      generations = c.in_ok-learn.ensures.agrees honest agrees.generations;
      numbered = λ id now.
          let n = value_of _ now in
          ⊎_elim
          (λ was. agrees.numbered id (some_of (generation_in old id) n.0 was))
          (λ h. known-ancestor objects old agrees root some id h.0)
          ((learnt id n.0).0 n.1);
    }

pub returns-clause-learnt : goal.returns-clause-learnt
returns-clause-learnt g c honest agrees some = c.in_ok-learn.ensures.learnt honest agrees.generations
