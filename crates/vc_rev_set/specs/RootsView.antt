use Rattle.vc_rev_set.specs.Selection.{Selection, selection}
use Rattle.vc_rev_set.specs.declared.roots.Roots.{Roots}

-- what commits of a set are to the walk
abbrev pub roots_view : Roots → Selection
roots_view roots = selection roots.include.items roots.exclude.items roots.apart.items
