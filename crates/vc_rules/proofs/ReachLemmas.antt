-- What is reached in the machine is what the walks reach.
use Rattle.std.proofs.Common.{◌≡◌, ℕ, List, ◌∷◌, ◌++◌, map, Option, Some, None, refl, sym, ap, ◌∙◌, subst, Contains, inl, inr, arith, []}
use Rattle.std.specs.Prelude.{IsSome, option_map, unwrap_or}
use Rattle.std.proofs.lemmas.List.Elements.{Contains-append_right, Contains-append_cases, Contains-push_cases}
use Rattle.vc_format.specs.Git.{kind_of, id_of_bytes, bytes_of_id}
use Rattle.vc_object_map.specs.Graph as graph
use Rattle.vc_object_map.specs.Graph.Reaches.{itself, onward}
use Rattle.vc_lemmas.proofs.Lists.{value_of, some_of}
use Rattle.vc_model.specs.Object.{Object, Id, Lookup, Kind}
use Rattle.vc_model.specs.Object.Kind.{Blob, Tree, Commit, Tag}
use Rattle.vc_model.specs.Reach.{Path, Reaches, Links, HasParent, IsClosed, HasHistory}
use Rattle.vc_object.specs.Commit.{CommitText}
use Rattle.vc_object.specs.CommitReading.{commit_of}
use Rattle.vc_object.specs.Decoding.{StoredObject}
use Rattle.vc_object.specs.Object.{IsObject, IsBody}
use Rattle.vc_object.proofs.Commits.{commit_again}
use Rattle.vc_object.specs.declared.kind.Kind.TheVariants as kinds
use Rattle.vc_object.specs.Links.{links_of, parents_of}
use Rattle.vc_object.specs.ObjectMap.{ObjectMap, links_in, parents_in}
use Rattle.vc_object.specs.declared.id.ObjectId.{ObjectId}
use Rattle.vc_object.proofs.ObjectMaps.{links_in-none, links_in-some, parents_in-none, parents_in-some}
use Rattle.vc_rules.specs.Git.{git, stored_of}

-- a list's ids, as bytes
pub bytes_among : (xs : List ObjectId) (x : ObjectId) → Contains xs x → Contains (map bytes_of_id xs) (bytes_of_id x)
bytes_among [] x h = absurd (let k = h.1 in omega arith)
bytes_among (y ∷ ys) x h = elim (Contains-append_cases (y ∷ []) ys x h) [
  | inl first ↦ elim (Contains-push_cases [] y x first) [
    | inl none ↦ absurd (let k = none.1 in omega arith)
    | inr same ↦ subst (λ (z : ObjectId). Contains (map bytes_of_id (y ∷ ys)) (bytes_of_id z)) same (0, omega arith, refl)
  ]
  | inr later ↦ Contains-append_right (bytes_of_id y ∷ []) (map bytes_of_id ys) (bytes_of_id x) (bytes_among ys x later)
]

pub id_among : (xs : List ObjectId) (x : Id) → Contains (map bytes_of_id xs) x → Contains xs (id_of_bytes x)
id_among [] x h = absurd (let k = h.1 in omega arith)
id_among (y ∷ ys) x h = elim (Contains-append_cases (bytes_of_id y ∷ []) (map bytes_of_id ys) x h) [
  | inl first ↦ elim (Contains-push_cases [] (bytes_of_id y) x first) [
    | inl none ↦ absurd (let k = none.1 in omega arith)
    | inr same ↦ subst (λ (z : Id). Contains (y ∷ ys) (id_of_bytes z)) same (0, omega arith, refl)
  ]
  | inr later ↦ Contains-append_right (y ∷ []) ys (id_of_bytes x) (id_among ys x later)
]

-- one more step at the end of a path
path_more : (step : Id → Id → Type 0) (zs : List Id) (x y z : Id) → Path step zs x y → step y z → Path step (zs ++ z ∷ []) x z
path_more step [] x y z p s = (subst (λ (w : Id). step w z) (sym p) s, refl)
path_more step (w ∷ zs) x y z p s = (p.0, path_more step zs w y z p.1 s)

module _ (o : ObjectMap) (at : Lookup) (rel : (x : Id) → o (id_of_bytes x) ≡ option_map stored_of (at x)) where
  -- ---- links

  link_to : (x y : Id) → Links git at x y → graph.LinksTo (links_in o) (id_of_bytes x) (id_of_bytes y)
  link_to x y l =
      let found : o (id_of_bytes x) ≡ Some (stored_of l.object) = rel x ∙ ap (option_map stored_of) l.found in
      (links_of (kind_of l.object.kind) l.object.body, links_in-some o (id_of_bytes x) (stored_of l.object) found, id_among (links_of (kind_of l.object.kind) l.object.body) y l.link)

  link_from : (x y : Id) (found : Option Object) → at x ≡ found → graph.LinksTo (links_in o) (id_of_bytes x) (id_of_bytes y) → Links git at x y
  link_from x y None e l =
      let none : links_in o (id_of_bytes x) ≡ None = links_in-none o (id_of_bytes x) (rel x ∙ ap (option_map stored_of) e) in
      let bad : Some l.0 ≡ None = sym l.1 ∙ none in cc
  link_from x y (Some p) e l =
      let are : Some (links_of (kind_of p.kind) p.body) ≡ Some l.0 = sym (links_in-some o (id_of_bytes x) (stored_of p) (rel x ∙ ap (option_map stored_of) e)) ∙ l.1 in
      let same : l.0 ≡ links_of (kind_of p.kind) p.body = cc in
      record { object = p; found = e; link = subst (λ (ids : List ObjectId). Contains (map bytes_of_id ids) y) same (bytes_among l.0 (id_of_bytes y) l.2) }

  pub path_to : (zs : List Id) (r x y : Id) → graph.Reaches (links_in o) (id_of_bytes r) (id_of_bytes x) → Path (Links git at) zs x y → graph.Reaches (links_in o) (id_of_bytes r) (id_of_bytes y)
  path_to [] r x y h p = subst (λ (w : Id). graph.Reaches (links_in o) (id_of_bytes r) (id_of_bytes w)) p h
  path_to (z ∷ zs) r x y h p = path_to zs r z y (onward h (link_to x z p.0)) p.1

  pub path_from : (x y : ObjectId) → graph.Reaches (links_in o) x y → Reaches (Links git at) x.0 y.0
  path_from x y itself = ([], refl)
  path_from x y (onward {y = z} h l) = let p = path_from x z h in (p.0 ++ y.0 ∷ [], path_more (Links git at) p.0 x.0 z.0 y.0 p.1 (link_from z.0 y.0 (at z.0) refl l))

  closed_there : (y : Id) (found : Option Object) → at y ≡ found → IsSome (links_in o (id_of_bytes y)) → (q : Object) × (at y ≡ Some q)
  closed_there y None e h = absurd (let none : links_in o (id_of_bytes y) ≡ None = links_in-none o (id_of_bytes y) (rel y ∙ ap (option_map stored_of) e) in let t = value_of (links_in o (id_of_bytes y)) h in let bad : Some t.0 ≡ None = sym t.1 ∙ none in cc)
  closed_there y (Some q) e h = (q, e)

  pub closed_from : (x : Id) → graph.IsClosed (links_in o) (id_of_bytes x) → IsClosed git at x
  closed_from x closed = record { there = λ y r. closed_there y (at y) refl (closed (id_of_bytes y) (path_to r.0 x x y itself r.1)) }

  pub closed_to : (x : Id) → IsClosed git at x → graph.IsClosed (links_in o) (id_of_bytes x)
  closed_to x closed y r =
      let t = closed.there y.0 (path_from (id_of_bytes x) y r) in
      some_of (links_in o y) (links_of (kind_of t.0.kind) t.0.body) (links_in-some o y (stored_of t.0) (rel y.0 ∙ ap (option_map stored_of) t.1))

  -- ---- parents

  module _ (sound : (id : ObjectId) (q : StoredObject) → o id ≡ Some q → IsObject q.kind q.body) where
    parents_to : (k : Kind) (body : List ℕ) (y : Id) (found : Option (List ObjectId)) → parents_of (kind_of k) body ≡ found → Contains (map bytes_of_id (unwrap_or found [])) y → (ps : List ObjectId) × (parents_of (kind_of k) body ≡ Some ps) × Contains ps (id_of_bytes y)
    parents_to k body y None e h = absurd (let i = h.1 in omega arith)
    parents_to k body y (Some ps) e h = (ps, e, id_among ps y h)

    parent_to : (x y : Id) → HasParent git at x y → graph.LinksTo (parents_in o) (id_of_bytes x) (id_of_bytes y)
    parent_to x y l =
        let q = l.object in
        let found : o (id_of_bytes x) ≡ Some (stored_of q) = rel x ∙ ap (option_map stored_of) l.found in
        let t = parents_to q.kind q.body y (parents_of (kind_of q.kind) q.body) refl l.parent in
        (t.0, parents_in-some o (id_of_bytes x) (stored_of q) found ∙ t.1, t.2)

    -- what has parents is a commit
    is_commit : (k : Kind) (body : List ℕ) (ps : List ObjectId) → parents_of (kind_of k) body ≡ Some ps → k ≡ Commit
    is_commit Blob body ps e = cc
    is_commit Tree body ps e = cc
    is_commit Commit body ps e = refl
    is_commit Tag body ps e = cc

    parent_from : (x y : Id) (found : Option Object) → at x ≡ found → graph.LinksTo (parents_in o) (id_of_bytes x) (id_of_bytes y) → HasParent git at x y
    parent_from x y None e l =
        let none : parents_in o (id_of_bytes x) ≡ None = parents_in-none o (id_of_bytes x) (rel x ∙ ap (option_map stored_of) e) in
        let bad : Some l.0 ≡ None = sym l.1 ∙ none in cc
    parent_from x y (Some p) e l =
        let are : parents_of (kind_of p.kind) p.body ≡ Some l.0 = sym (parents_in-some o (id_of_bytes x) (stored_of p) (rel x ∙ ap (option_map stored_of) e)) ∙ l.1 in
        record {
          object = p;
          found = e;
          commit = is_commit p.kind p.body l.0 are;
          parent = subst (λ (f : Option (List ObjectId)). Contains (map bytes_of_id (unwrap_or f [])) y) (sym are) (bytes_among l.0 (id_of_bytes y) l.2);
        }

    pub line_to : (zs : List Id) (r x y : Id) → graph.Reaches (parents_in o) (id_of_bytes r) (id_of_bytes x) → Path (HasParent git at) zs x y → graph.Reaches (parents_in o) (id_of_bytes r) (id_of_bytes y)
    line_to [] r x y h p = subst (λ (w : Id). graph.Reaches (parents_in o) (id_of_bytes r) (id_of_bytes w)) p h
    line_to (z ∷ zs) r x y h p = line_to zs r z y (onward h (parent_to x z p.0)) p.1

    pub line_from : (x y : ObjectId) → graph.Reaches (parents_in o) x y → Reaches (HasParent git at) x.0 y.0
    line_from x y itself = ([], refl)
    line_from x y (onward {y = z} h l) = let p = line_from x z h in (p.0 ++ y.0 ∷ [], path_more (HasParent git at) p.0 x.0 z.0 y.0 p.1 (parent_from z.0 y.0 (at z.0) refl l))

    history_there : (y : Id) (found : Option Object) → at y ≡ found → IsSome (parents_in o (id_of_bytes y)) → (q : Object) × (at y ≡ Some q) × (q.kind ≡ Commit)
    history_there y None e h = absurd (let none : parents_in o (id_of_bytes y) ≡ None = parents_in-none o (id_of_bytes y) (rel y ∙ ap (option_map stored_of) e) in let t = value_of (parents_in o (id_of_bytes y)) h in let bad : Some t.0 ≡ None = sym t.1 ∙ none in cc)
    history_there y (Some q) e h =
        let t = value_of (parents_in o (id_of_bytes y)) h in
        (q, e, is_commit q.kind q.body t.0 (sym (parents_in-some o (id_of_bytes y) (stored_of q) (rel y ∙ ap (option_map stored_of) e)) ∙ t.1))

    pub history_from : (x : Id) → graph.IsClosed (parents_in o) (id_of_bytes x) → HasHistory git at x
    history_from x closed = record { commits = λ y r. history_there y (at y) refl (closed (id_of_bytes y) (line_to r.0 x x y itself r.1)) }

    -- a commit's body is one
    parsed : (k : Kind) (body : List ℕ) → k ≡ Commit → IsObject (kind_of k) body → (ps : List ObjectId) × (parents_of (kind_of k) body ≡ Some ps)
    parsed k body is object = subst (λ (j : Kind). IsObject (kind_of j) body → (ps : List ObjectId) × (parents_of (kind_of j) body ≡ Some ps)) (sym is) (λ q. by q.grammar) object
      where
        by : IsBody kinds.Commit body → (ps : List ObjectId) × (parents_of kinds.Commit body ≡ Some ps)
        by g = (g.0.parents, ap (option_map (λ (c : CommitText). c.parents)) (ap commit_of g.2 ∙ commit_again g.0 g.1))

    pub history_to : (x : Id) → HasHistory git at x → graph.IsClosed (parents_in o) (id_of_bytes x)
    history_to x history y r =
        let t = history.commits y.0 (line_from (id_of_bytes x) y r) in
        let found : o y ≡ Some (stored_of t.0) = rel y.0 ∙ ap (option_map stored_of) t.1 in
        let ps = parsed t.0.kind t.0.body t.2 (sound y (stored_of t.0) found) in
        some_of (parents_in o y) ps.0 (parents_in-some o y (stored_of t.0) found ∙ ps.1)
