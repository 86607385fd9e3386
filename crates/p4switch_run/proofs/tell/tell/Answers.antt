use Rattle.p4switch_run.proofs.tell.tell.Goals as goal

pub returns-in-NotATape : goal.returns-in-NotATape
returns-in-NotATape g c = rw c.in-NotATape.is c.say_place.ensures

pub returns-in-WordsRefused : goal.returns-in-WordsRefused
returns-in-WordsRefused g c = rw c.in-WordsRefused.is c.say-in-WordsRefused.ensures

pub returns-in-NoMemory : goal.returns-in-NoMemory
returns-in-NoMemory g c = rw c.in-NoMemory.is c.say-in-NoMemory.ensures

pub returns-in-ReadFault : goal.returns-in-ReadFault
returns-in-ReadFault g c = rw c.in-ReadFault.is c.say-in-ReadFault.ensures

pub returns-in-WriteFault : goal.returns-in-WriteFault
returns-in-WriteFault g c = rw c.in-WriteFault.is c.say-in-WriteFault.ensures

pub returns-in-TooLong : goal.returns-in-TooLong
returns-in-TooLong g c = rw c.in-TooLong.is c.say-in-TooLong.ensures

pub returns-in-NetFault : goal.returns-in-NetFault
returns-in-NetFault g c = rw c.in-NetFault.is c.say-in-NetFault.ensures
