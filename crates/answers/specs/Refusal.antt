-- "Refusals, by who causes it. Given by number": the number of each.
use Rattle.std.specs.Prelude.{ℕ}
use Rattle.answers.specs.declared.Refusal.{Refusal}
use Rattle.answers.specs.declared.Refusal.TheVariants.{BadBuffer, UnsoundStore, BadDesk, IllegalName, WrongInode, NameAbsent, NameTaken, NotEmpty, PastEnd, IntoItself, NoInode, NoBlocks, NoSlot, Busy, WrongState, ImageFull, BadCount, KindsDiffer, BadTurn, NoDate, BadTerms, AfterAsked, BadTimes}

abbrev pub refusal_number : Refusal → ℕ
-- "Whoever wires the buffers": a length or count not allowed; the store not sound; the desk, or the image of a running copy, otherwise not as laid down
refusal_number BadBuffer = 1
refusal_number UnsoundStore = 2
refusal_number BadDesk = 3
-- "The app that names things": illegal name; not the file or directory needed; name absent; new name taken by another entry; directory not empty;
-- offset or new length past the size, or write ending past the most bytes of a file; directory moved into itself or below
refusal_number IllegalName = 4
refusal_number WrongInode = 5
refusal_number NameAbsent = 6
refusal_number NameTaken = 7
refusal_number NotEmpty = 8
refusal_number PastEnd = 9
refusal_number IntoItself = 10
-- "A full watch": no free inode; too few free blocks; all 48 slots used
refusal_number NoInode = 11
refusal_number NoBlocks = 12
refusal_number NoSlot = 13
-- "The copy's timing": busy; start while running or step while not; a block step with every image block named
refusal_number Busy = 14
refusal_number WrongState = 15
refusal_number ImageFull = 16
-- "17 when the number of steps is outside 1 to 64"
refusal_number BadCount = 17
-- "18 when one name is a file's and the other a directory's"
refusal_number KindsDiffer = 18
-- "21 when the steps allowed are outside 1 to 64 or the last bay outside 0 to 15"
refusal_number BadTurn = 21
-- "23 when a date doesn't exist or lies outside the years; 24 when terms overlap, run backwards or are
-- out of order; 25 when a copy is dated after the day asked"
refusal_number NoDate = 23
refusal_number BadTerms = 24
refusal_number AfterAsked = 25
-- "26 when a list is too long or not rising"
refusal_number BadTimes = 26
