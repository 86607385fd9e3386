-- What is known of a list that only grows.
use Rattle.std.specs.Prelude.{◌≡◌, ◌<◌, List, [], ◌∷◌, ◌++◌, length}
use mathlib.Core.List.{IsPrefix}
use Rattle.logbook.specs.Pages.{Book}

-- which list it is
abbrev pub ListName : Type 0
ListName = Book

-- the name of no list
abbrev pub no_list : ListName
no_list = record { number = 0; log_name = 0; cells_name = 0 }

-- a list, and events with which it begins
pub record Known (E : Type 0) : Type 0 where
  pub list : ListName
  pub events : List E

-- nothing is known of the list
abbrev pub nothing_of : {E : Type 0} → ListName → Known E
nothing_of b = record { list = b; events = [] }

-- what is known, with one event more
abbrev pub with_event : {E : Type 0} → Known E → E → Known E
with_event k e = record { list = k.list; events = k.events ++ e ∷ [] }

-- both are of one list, and the second begins with all events of the first
abbrev pub Begins : {E : Type 0} → Known E → Known E → Type 0
Begins a b = (b.list ≡ a.list) × IsPrefix a.events b.events

-- the second begins with all events of the first, and has more
abbrev pub IsLonger : {E : Type 0} → Known E → Known E → Type 0
IsLonger a b = Begins a b × (length a.events < length b.events)
