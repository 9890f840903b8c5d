-- The same words for whoever knows only what each id links to, or that it is absent.
use Rattle.std.specs.Prelude.{◌≡◌, List, Option, Some, None, Contains, ◌↔◌, option_map}
use Rattle.vc_model.specs.Object.{Id, Object, Format, Lookup}
use Rattle.vc_model.specs.Object.Kind.{Commit}
use Rattle.vc_model.specs.Reach.{Reaches, Links, HasParent, IsClosed, HasHistory}

-- x is there and links to y.
pub record Leads (links : Id → Option (List Id)) (x y : Id) : Type 0 where
  pub names : List Id
  pub found : links x ≡ Some names
  pub link : Contains names y

-- Every id that x reaches is there.
pub record IsComplete (links : Id → Option (List Id)) (x : Id) : Type 0 where
  pub there : (y : Id) → Reaches (Leads links) x y → (names : List Id) × (links y ≡ Some names)

-- x is a commit that is there and has the parent y; another kind has Some None.
pub record LeadsUp (parents : Id → Option (Option (List Id))) (x y : Id) : Type 0 where
  pub names : List Id
  pub found : parents x ≡ Some (Some names)
  pub link : Contains names y

-- x is a commit, with commits alone along its parent links.
pub record IsHistory (parents : Id → Option (Option (List Id))) (x : Id) : Type 0 where
  pub commits : (y : Id) → Reaches (LeadsUp parents) x y → (names : List Id) × (parents y ≡ Some (Some names))

abbrev pub links_in : Format → Lookup → Id → Option (List Id)
links_in fmt at x = option_map fmt.links (at x)

abbrev pub parents_of : Format → Object → Option (List Id)
parents_of fmt o = elim (o.kind) [ Commit ↦ Some (fmt.parents o) | _ ↦ None ]

abbrev pub parents_in : Format → Lookup → Id → Option (Option (List Id))
parents_in fmt at x = option_map (parents_of fmt) (at x)

-- Both ways of speaking say the same.
abbrev pub SameWords : Type 0
SameWords = (fmt : Format) (at : Lookup) (x y : Id) →
    (Reaches (Leads (links_in fmt at)) x y ↔ Reaches (Links fmt at) x y)
    × (IsComplete (links_in fmt at) x ↔ IsClosed fmt at x)
    × (Reaches (LeadsUp (parents_in fmt at)) x y ↔ Reaches (HasParent fmt at) x y)
    × (IsHistory (parents_in fmt at) x ↔ HasHistory fmt at x)
