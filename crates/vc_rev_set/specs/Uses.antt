use Rattle.std.specs.Prelude.{[], ◌∷◌}
use Rattle.vc_rev_set.specs.Selection.{CommitRead, Selection, selection}
use Rattle.vc_rev_set.specs.declared.terms.Use.{Use}
use Rattle.vc_rev_set.specs.declared.terms.Use.TheVariants.{Included, Excluded, ParentsIncluded, ParentsExcluded, Only}

-- what a term that takes a commit so includes and excludes
abbrev pub used : Use → CommitRead → Selection
used Included c = selection (c.0 ∷ []) [] []
used Excluded c = selection [] (c.0 ∷ []) []
used ParentsIncluded c = selection c.1 [] []
used ParentsExcluded c = selection [] c.1 []
used Only c = selection (c.0 ∷ []) c.1 []
