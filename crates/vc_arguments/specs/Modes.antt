-- What each way that a file stands in the index is as a mode.
use Rattle.vc_object.specs.declared.mode.Mode.{Mode}
use Rattle.vc_object.specs.declared.mode.Mode.TheVariants as modes
use Rattle.vc_arguments.specs.declared.arguments.FileMode.{FileMode}
use Rattle.vc_arguments.specs.declared.arguments.FileMode.TheVariants.{Plain, Executable, Link}

-- the mode of a file's entry
abbrev pub mode_of : FileMode → Mode
mode_of Plain = modes.File
mode_of Executable = modes.Executable
mode_of Link = modes.Link
