-- A tree of paths, looked through in the order of the paths for a file that lies in another.
use Rattle.std.proofs.Common.{◌≡◌, ℕ, List, ◌∷◌, ◌++◌, Some, sym, ap, refl, ◌∙◌, subst, append_assoc, []}
use Rattle.std.specs.Prelude.{Vec}
use Rattle.std.specs.Global.{Global}
use Rattle.std.specs.BTreeMap.{BTreeMap, IsOrdered}
use Rattle.std.specs.FinMap.{entries, get, get-from_entries}
use Rattle.std.specs.Ordering.{nat_cmp}
use Rattle.std.specs.declared.cmp.Ordering.TheVariants.{Less}
use Rattle.std.specs.Cmp.Lexicographic.{slice_cmp, nat_list_cmp_total}
use Rattle.std.proofs.lemmas.List.{map-append}
use Rattle.vc_index.specs.IndexMap.{HasFileAbove, IndexMap, IsFile, IsIndex, index_of}
use Rattle.vc_index.specs.Reading.{AreInOrder, IsReadTo, index_with, pairs}
use Rattle.vc_index.specs.declared.entry.IndexEntry.{IndexEntry}
use Rattle.vc_index.proofs.CollectLemmas.{index_more, order_more}
use Rattle.vc_index.proofs.EntriesLemmas.{AllBefore, get_front, get_mid, mid_before}
use Rattle.vc_index.proofs.FrontLemmas.{value_of}
use Rattle.vc_index.proofs.MapLemmas.{Entries, entries-empty, entries-index_of, key_cmp}
use Rattle.vc_index.proofs.ReadLemmas.{FrontsKept, comes_behind, nothing_read, path_some, to_more}
use Rattle.vc_lemmas.proofs.Lists.{some_of}

-- the files up to the last path, none of which lies in another
pub record ApartSoFar (all : BTreeMap (Vec ℕ Global) IndexEntry) (rest : Entries) (last : List ℕ) (fronts : List (List ℕ)) : Type 0 where
  pub done : Entries
  pub whole : all.entries ≡ done ++ rest
  pub order : AreInOrder done
  pub to : IsReadTo (index_with done) last fronts

pub apart_start : (all : BTreeMap (Vec ℕ Global) IndexEntry) (rest : Entries) (fronts : List (List ℕ)) → rest ≡ all.entries → fronts ≡ [] → ApartSoFar all rest [] fronts
apart_start all rest fronts is none = record { done = []; whole = sym is; order = entries-empty; to = nothing_read fronts (index_with []) none refl }

module _ (all : BTreeMap (Vec ℕ Global) IndexEntry) (ordered : IsOrdered key_cmp all) (before rest : Entries) (last : List ℕ) (fronts : List (List ℕ)) (so_far : ApartSoFar all before last fronts)
    (key : Vec ℕ Global) (entry : IndexEntry) (is : before ≡ (key, entry) ∷ rest) where
  parted : entries (index_of all) ≡ pairs so_far.done ++ (key.items, entry) ∷ pairs rest
  parted =
      entries-index_of all ordered ∙ ap pairs (so_far.whole ∙ ap (λ l. so_far.done ++ l) is)
      ∙ map-append (λ (e : Vec ℕ Global × IndexEntry). (e.0.items, e.1)) so_far.done ((key, entry) ∷ rest)

  here : get (index_of all) key.items ≡ Some entry
  here = get_mid (index_of all) (pairs so_far.done) (pairs rest) key.items entry parted

  pub apart_file : ((path : List ℕ) (e : IndexEntry) → get (index_of all) path ≡ Some e → IsFile path e) → IsFile key.items entry
  apart_file files = files key.items entry here

  behind : AllBefore key.items (entries (index_with so_far.done))
  behind = subst (AllBefore key.items) (sym so_far.order) (mid_before (index_of all) (pairs so_far.done) (pairs rest) key.items entry parted)

  module _ (file : IsFile key.items entry) where
    pub apart_less : slice_cmp nat_cmp last key.items ≡ Less
    apart_less = comes_behind (index_with so_far.done) last fronts so_far.to key.items (path_some key.items file.legal) behind

    pub apart_more : ¬ (HasFileAbove (index_with so_far.done) key.items) → (kept new : List (List ℕ)) → FrontsKept fronts key.items kept → new ≡ kept ++ key.items ∷ [] → ApartSoFar all rest key.items new
    apart_more none kept new keeps more = record {
      done = so_far.done ++ (key, entry) ∷ [];
      whole = so_far.whole ∙ ap (λ l. so_far.done ++ l) is ∙ sym (append_assoc so_far.done ((key, entry) ∷ []) rest);
      order = order_more so_far.done key key.items entry refl so_far.order behind;
      to = subst (λ (m : IndexMap). IsReadTo m key.items new) (sym (index_more so_far.done key key.items entry refl so_far.order behind))
          (to_more (index_with so_far.done) last fronts so_far.to key.items entry apart_less file none kept new keeps more);
    }

  -- a file that lies in one of those before
  pub apart_not : HasFileAbove (index_with so_far.done) key.items → IsIndex (index_of all) → ⊥
  apart_not (other, some, above) sound =
      let found = value_of (get (index_with so_far.done) other) some in
      let there : get (index_of all) other ≡ Some found.0 = get_front (index_of all) (pairs so_far.done) (pairs rest) key.items entry parted other found.0 (sym (get-from_entries nat_list_cmp_total (pairs so_far.done) other) ∙ found.1) in
      sound.apart other key.items (some_of _ found.0 there) (some_of _ entry here) above
