use Rattle.reason_text.specs.Texts.{words_text}
use Rattle.reason_text.proofs.put_text.Goals as goal

pub returns-in_default : goal.returns-in_default
unfolding words_text
returns-in_default c = simp c.in_default.is c.push_bytes.ensures

pub returns-in-TooLong : goal.returns-in-TooLong
unfolding words_text
returns-in-TooLong c = simp (c.in-Some.is, c.in-TooLong.is) c.push_bytes-in-TooLong.ensures

pub returns-in-NoWord : goal.returns-in-NoWord
unfolding words_text
returns-in-NoWord c = simp (c.in-Some.is, c.in-NoWord.is) c.push_bytes-in-NoWord.ensures

pub returns-in-UnknownWord : goal.returns-in-UnknownWord
unfolding words_text
returns-in-UnknownWord c = simp (c.in-Some.is, c.in-UnknownWord.is) c.put_named.ensures

pub returns-in-Missing : goal.returns-in-Missing
unfolding words_text
returns-in-Missing c = simp (c.in-Some.is, c.in-Missing.is) c.put_missing.ensures

pub returns-in-NotNumber : goal.returns-in-NotNumber
unfolding words_text
returns-in-NotNumber c = simp (c.in-Some.is, c.in-NotNumber.is) c.put_wanted.ensures

pub returns-in-OutOfRange : goal.returns-in-OutOfRange
unfolding words_text
returns-in-OutOfRange c = simp (c.in-Some.is, c.in-OutOfRange.is) c.put_wanted-in-OutOfRange.ensures

pub returns-in-NotListed : goal.returns-in-NotListed
unfolding words_text
returns-in-NotListed c = simp (c.in-Some.is, c.in-NotListed.is) c.put_wanted-in-NotListed.ensures

pub returns-in-Extra : goal.returns-in-Extra
unfolding words_text
returns-in-Extra c = simp (c.in-Some.is, c.in-Extra.is) c.put_named-in-Extra.ensures

pub returns-in-BeforeOpen : goal.returns-in-BeforeOpen
unfolding words_text
returns-in-BeforeOpen c = simp (c.in-Some.is, c.in-BeforeOpen.is) c.push_bytes-in-BeforeOpen.ensures

pub returns-in-SecondOpen : goal.returns-in-SecondOpen
unfolding words_text
returns-in-SecondOpen c = simp (c.in-Some.is, c.in-SecondOpen.is) c.push_bytes-in-SecondOpen.ensures

pub returns-in-BeforeClock : goal.returns-in-BeforeClock
unfolding words_text
returns-in-BeforeClock c = simp (c.in-Some.is, c.in-BeforeClock.is) c.push_bytes-in-BeforeClock.ensures
