-- What is said of links alone is what is said of objects.
use Rattle.std.proofs.Common.{◌≡◌, List, Option, Some, None, refl, sym, ap, ◌∙◌, subst, Contains, option_map}
use Rattle.vc_model.specs.Object.{Id, Kind, Format, Lookup}
use Rattle.vc_model.specs.Object.Kind.{Blob, Tree, Commit, Tag}
use Rattle.vc_model.specs.Reach.{Links, HasParent, IsClosed, HasHistory}
use Rattle.vc_model.specs.Graph.{Leads, IsComplete, LeadsUp, IsHistory, links_in, parents_of, parents_in, SameWords}
use Rattle.vc_model.proofs.Reaching.{reaches-steps}

mapped : {X Y : Type 0} (f : X → Y) (o : Option X) (y : Y) → option_map f o ≡ Some y → (x : X) × (o ≡ Some x) × (f x ≡ y)
mapped f None y e = absurd (cc)
mapped f (Some x) y e = (x, refl, cc)

is_commit : (k : Kind) (ps ns : List Id) → elim k [ Commit ↦ Some ps | _ ↦ None ] ≡ Some ns → (k ≡ Commit) × (ps ≡ ns)
is_commit Commit ps ns e = (refl, cc)
is_commit Blob ps ns e = absurd (cc)
is_commit Tree ps ns e = absurd (cc)
is_commit Tag ps ns e = absurd (cc)

of_commit : (k : Kind) (ps : List Id) → k ≡ Commit → elim k [ Commit ↦ Some ps | _ ↦ None ] ≡ Some ps
of_commit Commit ps e = refl
of_commit Blob ps e = absurd (cc)
of_commit Tree ps e = absurd (cc)
of_commit Tag ps e = absurd (cc)

module _ (fmt : Format) (at : Lookup) where
  down : (x y : Id) → Leads (links_in fmt at) x y → Links fmt at x y
  down x y l = let o = mapped fmt.links (at x) l.names l.found in record { object = o.0; found = o.1; link = subst (λ ns. Contains ns y) (sym o.2) l.link }

  down_back : (x y : Id) → Links fmt at x y → Leads (links_in fmt at) x y
  down_back x y l = record { names = fmt.links l.object; found = ap (option_map fmt.links) l.found; link = l.link }

  up : (x y : Id) → LeadsUp (parents_in fmt at) x y → HasParent fmt at x y
  up x y l =
      let o = mapped (parents_of fmt) (at x) (Some l.names) l.found in
      let c = is_commit o.0.kind (fmt.parents o.0) l.names o.2 in
      record { object = o.0; found = o.1; commit = c.0; parent = subst (λ ns. Contains ns y) (sym c.1) l.link }

  up_back : (x y : Id) → HasParent fmt at x y → LeadsUp (parents_in fmt at) x y
  up_back x y l = record {
    names = fmt.parents l.object;
    found = ap (option_map (parents_of fmt)) l.found ∙ ap Some (of_commit l.object.kind (fmt.parents l.object) l.commit);
    link = l.parent;
  }

  complete : (x : Id) → IsComplete (links_in fmt at) x → IsClosed fmt at x
  complete x c = record {
    there = λ y p.
        let n = c.there y (reaches-steps (Links fmt at) (Leads (links_in fmt at)) down_back x y p) in
        let o = mapped fmt.links (at y) n.0 n.1 in
        (o.0, o.1);
  }

  complete_back : (x : Id) → IsClosed fmt at x → IsComplete (links_in fmt at) x
  complete_back x c = record {
    there = λ y p.
        let o = c.there y (reaches-steps (Leads (links_in fmt at)) (Links fmt at) down x y p) in
        (fmt.links o.0, ap (option_map fmt.links) o.1);
  }

  history : (x : Id) → IsHistory (parents_in fmt at) x → HasHistory fmt at x
  history x c = record {
    commits = λ y p.
        let n = c.commits y (reaches-steps (HasParent fmt at) (LeadsUp (parents_in fmt at)) up_back x y p) in
        let o = mapped (parents_of fmt) (at y) (Some n.0) n.1 in
        (o.0, o.1, (is_commit o.0.kind (fmt.parents o.0) n.0 o.2).0);
  }

  history_back : (x : Id) → HasHistory fmt at x → IsHistory (parents_in fmt at) x
  history_back x c = record {
    commits = λ y p.
        let o = c.commits y (reaches-steps (LeadsUp (parents_in fmt at)) (HasParent fmt at) up x y p) in
        (fmt.parents o.0, ap (option_map (parents_of fmt)) o.1 ∙ ap Some (of_commit o.0.kind (fmt.parents o.0) o.2));
  }

pub same_words : SameWords
same_words fmt at x y = (
  (reaches-steps (Leads (links_in fmt at)) (Links fmt at) (down fmt at) x y, reaches-steps (Links fmt at) (Leads (links_in fmt at)) (down_back fmt at) x y),
  (complete fmt at x, complete_back fmt at x),
  (reaches-steps (LeadsUp (parents_in fmt at)) (HasParent fmt at) (up fmt at) x y, reaches-steps (HasParent fmt at) (LeadsUp (parents_in fmt at)) (up_back fmt at) x y),
  (history fmt at x, history_back fmt at x),
)
