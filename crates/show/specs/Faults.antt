-- What can be wrong with show's arguments besides the faults that other programs have, by numbers of its own. Assumes nothing.
use Rattle.command_line.specs.declared.Fault.{Fault}
use Rattle.command_line.specs.declared.Fault.TheVariants.{Own}
use Rattle.show.specs.declared.options.OwnFault.{OwnFault}
use Rattle.show.specs.declared.options.OwnFault.TheVariants.{SecondStream, WidthMissing, NoWidth, IdleWidth}

abbrev pub own : OwnFault → Fault
own SecondStream = Own 1
own WidthMissing = Own 2
own NoWidth = Own 3
own IdleWidth = Own 4
