-- It ends since n falls.
use Rattle.text.proofs.line.+with_number.Given as goal

abbrev pub decreases-with_number : goal.decreases-with_number
decreases-with_number l = l.n
